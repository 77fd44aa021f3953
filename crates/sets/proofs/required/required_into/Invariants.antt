use mathlib.Core.Path.{◌≡◌}
use Prim.Native.Nat.{◌-◌}
use Rattle.hazard.specs.Transition as spec
use Rattle.hazard.specs.Sets.{required_from, of_transitions}
use Rattle.cube.specs.Entry.{required_in}
use Rattle.context.specs.Context.{table_in}
use Rattle.entries.proofs.Filling.{Filling}
use Rattle.sets.proofs.required.required_into.Given as goal

abbrev pub invariant-loop-t : goal.invariant-loop-t
invariant-loop-t l =
    let n = l.problem.planes.n.count in
    let f = table_in l.problem.planes in
    let ts = l.problem.transitions.list.now in
    (l.store.room.ghost_name ≡ l.initial.store.room.ghost_name)
    × Filling n (required_in n) l.initial.store.room.now l.store.room.now 0 l.store.next (required_from n f ts l.t (spec.count ts - l.t)) (of_transitions n f ts)
