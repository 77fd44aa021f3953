use Rattle.flags.proofs.Placing.{Placing}
use Rattle.flags.proofs.put.put_word.Given as goal

abbrev pub invariant-loop-i : goal.invariant-loop-i
invariant-loop-i g l = (d : _) → Placing d l.b l.word l.value l.initial.places l.places l.i-iterator.left
