use mathlib.Core.Path.{◌≡◌}
use Prim.Native.Nat.{◌^◌}
use Rattle.cube.specs.Entry.{required_in}
use Rattle.cube.specs.PointSet.{in_set}
use Rattle.hazard.specs.Search.{those}
use Rattle.hazard.specs.Sets.{maximal_label}
use Rattle.moves.specs.Turn.{lasts}
use Rattle.context.specs.Context.{table_in}
use Rattle.entries.specs.Store.{required_to}
use Rattle.points.proofs.Turning.{Turning}
use Rattle.sets.proofs.Gather.{Walked}
use Rattle.sets.proofs.required.dynamic_into.Given as goal

abbrev pub invariant-loop-step : goal.invariant-loop-step
invariant-loop-step l =
    let walk = l.initial.step-iterator.walk in
    let n = l.planes.n.count in
    let p = l.initial.out in
    let q = l.out in
    (q.room.ghost_name ≡ p.room.ghost_name)
    × Turning walk (λ s. Walked n (required_in n) (required_to n l.t l.s) p.room.now q.room.now p.next q.next walk (lasts n (in_set l.planes.ones.words) l.s l.e) s (those (maximal_label n (table_in l.planes) l.s l.e) 0 (2 ^ n))) l.step-iterator
