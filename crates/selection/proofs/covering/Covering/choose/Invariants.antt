use mathlib.Core.Path.{◌≡◌}
use lib.ListN.{length}
use Rattle.choice.proofs.Lending.{Lent}
use Rattle.selection.proofs.Choices.{Turn}
use Rattle.selection.proofs.covering.Covering.choose.Given as goal

abbrev pub invariant-loop-i : goal.invariant-loop-i
invariant-loop-i l = Turn l.self.context.now l.self.required.now l.firsts l.products l.flags l.m l.i × (length l.products ≡ length l.initial.products) × Lent (length l.self.required.now) l.flags l.uncovered l.taken
