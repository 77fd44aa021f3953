use mathlib.Core.Path.{refl}
use lib.ListN.{length}
use native.Mathlib.Omega.{arith}
use Rattle.cube.proofs.Digits.{write_step, written}
use Rattle.cube.proofs.bytes.write_product.Goals as goal

pub loop-i-preserved : goal.loop-i-preserved
loop-i-preserved c =
    let l = c.loop-i in
    rw c.digit_at.ensures.0 (write_step l.out (omega arith) c.args.c.care c.args.c.value l.i (omega arith) l.invariant)

pub returns : goal.returns
returns c =
    let l = c.loop-i in
    written l.out (length c.args.out.now) c.args.c.care c.args.c.value (omega arith) (omega arith) l.invariant
