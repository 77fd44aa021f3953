use mathlib.Core.Path.{◌≡◌}
use lib.ListN.{length, take}
use Rattle.rows.proofs.copy.copy_into.Given as goal

abbrev pub invariant-loop-b : goal.invariant-loop-b
invariant-loop-b l = (length l.to ≡ length l.initial.to) × (take l.b l.to ≡ take l.b l.from)
