use Rattle.cube.specs.PointSet.{in_set}
use Rattle.moves.proofs.Movement.{Moving}
use Rattle.moves.proofs.further.further_word.Given as goal

abbrev pub invariant-loop-i : goal.invariant-loop-i
invariant-loop-i l = Moving l.fn.n.count (in_set l.set.words) l.a l.fn.b l.w l.i-iterator.left l.word
