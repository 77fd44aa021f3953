use Rattle.sets.proofs.Leaving.{Visiting}
use Rattle.sets.proofs.unvisited.visited.Given as goal

abbrev pub invariant-loop-t : goal.invariant-loop-t
invariant-loop-t l = Visiting l.transitions.n.count l.transitions.list.now l.t l.initial.set.words l.set.words
