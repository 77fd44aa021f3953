use mathlib.Core.Path.{◌≡◌}
use Rattle.std.specs.Prelude.{None}
use Prim.Native.Nat.{◌^◌}
use Rattle.cube.specs.Entry.{required_in}
use Rattle.cube.specs.PointSet.{in_set}
use Rattle.hazard.specs.Search.{those}
use Rattle.entries.specs.Store.{required_at}
use Rattle.points.proofs.Turning.{Turning}
use Rattle.sets.proofs.Gather.{Walked}
use Rattle.sets.proofs.required.points_into.Given as goal

abbrev pub invariant-loop-step : goal.invariant-loop-step
invariant-loop-step l =
    let walk = l.initial.step-iterator.walk in
    let n = l.n.count in
    let p = l.initial.out in
    let q = l.out in
    (q.room.ghost_name ≡ p.room.ghost_name)
    × Turning walk (λ s. Walked n (required_in n) (required_at n l.t None) p.room.now q.room.now p.next q.next walk (in_set l.set.words) s (those (in_set l.set.words) 0 (2 ^ n))) l.step-iterator
