use mathlib.Core.Path.{◌≡◌}
use Prim.Native.Nat.{ℕ, ◌*◌, ◌<◌}
use lib.Dec.{ltb}
use Rattle.cube.specs.PointSet.{in_set}
use Rattle.rows.proofs.whole.whole_into.Given as goal

abbrev pub invariant-loop-b : goal.invariant-loop-b
invariant-loop-b l = (k : ℕ) → k < 64 * l.b → in_set l.out k ≡ ltb k l.count
