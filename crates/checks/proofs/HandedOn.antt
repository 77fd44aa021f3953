-- The sets of a checked problem are those of its table and transitions, as they are handed on.
use mathlib.Core.Path.{◌≡◌, ap, ◌∙◌}
use mathlib.Core.List.{List, map}
use Prim.Native.Nat.{ℕ, ◌-◌, ◌≤◌}
use native.Mathlib.Nat.{sub-zero}
use native.Mathlib.Omega.{arith}
use lib.ListN.{length, take}
use lib.Seq.{take_all}
use Rattle.hazard.specs.Limits.{most_required}
use Rattle.hazard.specs.Transition.{off}
use Rattle.hazard.specs.Sets.{required}
use Rattle.cube.specs.Entry.{required_in}
use Rattle.cube.specs.PointSet.{in_set}
use Rattle.points.specs.declared.set.PointSet.{PointSet}
use Rattle.context.specs.Context.{off_in, table_in}
use Rattle.context.proofs.Values.{off-table}
use Rattle.kinds.specs.declared.problem.Problem.{Problem}
use Rattle.sets.specs.Held.{Held}
use Rattle.sets.proofs.Gather.{held_all}
use Rattle.checks.specs.declared.checked.Checked.{Checked}
use Rattle.checks.proofs.Checks.{problem-few}

module _ (k : Checked) where
  pub checked-off : off_in k.context ≡ off (table_in k.problem.planes)
  checked-off = ap (λ (s : PointSet). in_set s.words) k.sets.off' ∙ off-table k.problem.planes

  -- The few that are stored are all, where no more are counted.
  pub checked-few : k.count ≤ length k.few
      → map (required_in k.problem.planes.n.count) (take (k.count - 0) k.few) ≡ required k.problem.planes.n.count (table_in k.problem.planes) k.problem.transitions.list.now
  checked-few l =
      let n = k.problem.planes.n.count in
      ap (λ (j : ℕ). map (required_in n) (take j k.few)) (sub-zero k.count) ∙ k.sets.few'
      ∙ take_all (length k.few) (required n (table_in k.problem.planes) k.problem.transitions.list.now) (omega (arith, l, k.sets.count'))

-- Stored in an array as long as the limit, all are there.
module _ (p : Problem) {before after : List ℕ} {r : ℕ}
    (h : Held p.planes.n.count (required_in p.planes.n.count) before after r (required p.planes.n.count (table_in p.planes) p.transitions.list.now)) (l : most_required ≤ length before) where
  pub all-room : r ≤ length after
  all-room = omega (arith, h.size, h.long, problem-few p.ready p.transitions.listed)

  pub all-stored : map (required_in p.planes.n.count) (take (r - 0) after) ≡ required p.planes.n.count (table_in p.planes) p.transitions.list.now
  all-stored = ap (λ (j : ℕ). map (required_in p.planes.n.count) (take j after)) (sub-zero r) ∙ held_all h all-room
