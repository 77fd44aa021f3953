-- The definitions' answers, for a finding or a refusal.
use Rattle.std.specs.Prelude.{Result, Ok, Err, ℕ}
use Rattle.hazard.specs.Verdict as spec
use Rattle.refusal.specs.declared.refusal.Refusal.{Refusal}
use Rattle.refusal.specs.Answer.{refusal_of}
use Rattle.conditions.specs.Answer.{verdict_of}
use Rattle.witness.specs.declared.finding.Finding.{Finding}

-- The verdict, or the refusal as one.
abbrev pub found_of : Result Finding Refusal → spec.Verdict
found_of (Ok f) = verdict_of f.verdict
found_of (Err r) = spec.refused (refusal_of r)

-- How many wires were written.
abbrev pub counted_of : Result Finding Refusal → ℕ
counted_of (Ok f) = f.wires
counted_of (Err r) = 0
