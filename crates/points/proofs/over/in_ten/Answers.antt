use mathlib.Core.Path.{refl, ap, ◌∙◌}
use Prim.Native.Nat.{ℕ, ◌+◌, ◌-◌}
use native.Mathlib.Omega.{arith}
use lib.Pow.{pow_mono}
use Rattle.cube.proofs.Bits.{one_shl}
use Rattle.points.proofs.Stepping.{ten_care, ten_is}
use Rattle.points.proofs.over.in_ten.Goals as goal

pub overflow_sub-result : goal.overflow_sub-result
overflow_sub-result c = let n = c.args.n in omega (arith, one_shl n.count (omega arith), pow_mono {j = 10} n.few)

pub returns : goal.returns
returns c =
    let n = c.args.n in
    ten_is n.few c.requires _ (ap (λ (y : ℕ). c.args.c.care + (1024 - y)) (one_shl n.count (omega arith)) ∙ ten_care n.few c.requires) refl
