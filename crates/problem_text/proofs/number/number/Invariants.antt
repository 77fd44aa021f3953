use Rattle.std.proofs.Common.{◌≡◌, drop}
use Rattle.problem_text.specs.Read.{more, number}
use Rattle.problem_text.proofs.number.number.Given as goal

-- The digits up to a place make the number x.
abbrev pub invariant-loop-i : goal.invariant-loop-i
invariant-loop-i l = number l.text ≡ more l.x (drop l.i l.rest)
