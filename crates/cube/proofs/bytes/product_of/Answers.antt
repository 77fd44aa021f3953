use mathlib.Core.Path.{◌≡◌}
use Prim.Native.Nat.{◌-◌}
use native.Mathlib.Omega.{arith}
use native.Mathlib.Nat.{sub-zero}
use Rattle.cube.proofs.Digits.{stands_none, stands_small, product_step}
use Rattle.cube.proofs.bytes.product_of.Goals as goal

pub loop-i-preserved : goal.loop-i-preserved
loop-i-preserved c =
    let l = c.loop-i in
    product_step c.args.bytes.now l.i (omega arith) (omega arith) (c.prepended-c.ensures _ _ l.invariant)
