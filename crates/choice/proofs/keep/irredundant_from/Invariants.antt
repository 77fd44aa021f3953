use lib.ListN.{length}
use Rattle.choice.proofs.Lending.{Lent}
use Rattle.choice.proofs.Keeping.{Keeping}
use Rattle.choice.proofs.keep.irredundant_from.Given as goal

abbrev pub invariant-loop-j : goal.invariant-loop-j
invariant-loop-j l = Keeping l.n.count l.required l.initial.products l.products l.flags l.kept l.j × Lent (length l.required) l.flags l.uncovered l.taken
