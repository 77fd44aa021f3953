use mathlib.Core.Path.{◌≡◌}
use Prim.Native.Nat.{◌-◌, ◌≤◌}
use Rattle.hazard.specs.Transition as spec
use Rattle.hazard.specs.Sets.{privileged, privileged_from}
use Rattle.cube.specs.Entry.{privileged_in}
use Rattle.context.specs.Context.{table_in}
use Rattle.entries.proofs.Filling.{Filling}
use Rattle.sets.proofs.privileged.privileged_into.Given as goal

abbrev pub invariant-loop-t : goal.invariant-loop-t
invariant-loop-t l =
    let n = l.problem.planes.n.count in
    let f = table_in l.problem.planes in
    let ts = l.problem.transitions.list.now in
    (l.store.room.ghost_name ≡ l.initial.store.room.ghost_name)
    × (l.store.next ≤ l.t)
    × Filling n (privileged_in n) l.initial.store.room.now l.store.room.now 0 l.store.next (privileged_from n f ts l.t (spec.count ts - l.t)) (privileged n f ts)
