use mathlib.Core.Path.{ap, ◌∙◌}
use Prim.Native.Nat.{ℕ, ◌%◌}
use native.Mathlib.Omega.{arith}
use lib.Bits.{bit_xor}
use lib.Count.{ones}
use lib.Dec.{ltb}
use lib.Pow.{pow_pos}
use Rattle.hazard.specs.Limits.{most_moving}
use Rattle.cube.proofs.Bits.{one_shl}
use Rattle.form.proofs.Distance.{differing}
use Rattle.form.proofs.burst.is_wide.Goals as goal

pub returns : goal.returns
returns c = let a = c.args in ap (λ (p : ℕ). ltb most_moving (ones (bit_xor a.ends.start a.ends.end % p))) (one_shl a.n.count (omega arith)) ∙ ap (ltb most_moving) (differing a.n.count a.ends.start a.ends.end)
