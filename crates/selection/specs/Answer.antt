-- The definitions' answer, for the code's.
use Rattle.std.specs.Prelude.{ℕ, Result, Ok, Err}
use Rattle.hazard.specs.Minimal as minimal
use Rattle.refusal.specs.declared.refusal.Refusal.{Refusal}
use Rattle.refusal.specs.Answer.{refusal_of}

-- How many products there are, or why there are none.
abbrev pub minimised_of : Result ℕ Refusal → minimal.Minimised
minimised_of (Ok m) = minimal.written m
minimised_of (Err r) = minimal.declined (refusal_of r)
