use mathlib.Core.Path.{◌≡◌}
use Rattle.cube.specs.Entry.{required_in}
use Rattle.points.specs.PointWord.{points_in, points_left}
use Rattle.entries.specs.Store.{required_at}
use Rattle.entries.proofs.Filling.{Storing}
use Rattle.entries.proofs.required.word_into.Given as goal

abbrev pub invariant-loop-label : goal.invariant-loop-label
invariant-loop-label l =
    let room = l.out.room in
    (room.ghost_name ≡ l.initial.out.room.ghost_name)
    × Storing l.n.count (required_in l.n.count) (required_at l.n.count l.t l.corner) l.initial.out.room.now room.now l.initial.out.next l.out.next (points_left l.label-iterator) (points_in l.fn.w l.fn.labels)
