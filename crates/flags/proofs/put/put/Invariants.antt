use Rattle.flags.proofs.Placing.{Placed}
use Rattle.flags.proofs.put.put.Given as goal

abbrev pub invariant-loop-b : goal.invariant-loop-b
invariant-loop-b g l = (d : _) → Placed d l.set l.value l.initial.places l.places l.b
