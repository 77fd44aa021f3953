-- Checks of transitions, one after another.
use Rattle.std.specs.Prelude.{List, ℕ, ◌<◌, Result, Ok, Err, IfOk, IfErr}
use Rattle.hazard.specs.Transition as spec
use Rattle.kinds.specs.declared.transition.Transition.{Transition}

-- Transition t of a list.
abbrev pub transition_in : List ℕ → ℕ → Transition
transition_in ts t = record { start = spec.start ts t; end = spec.end ts t }

-- The answer of a check of each number below a count: it passed them all, or this is the failure of the first that it failed.
pub record FirstFailed {E : Type 0} (said : ℕ → Result (Unit {0}) E → Type 0) (count : ℕ) (r : Result (Unit {0}) E) : Type 0 where
  pub all : IfOk r (λ _. (t : ℕ) → t < count → said t (Ok tt))
  pub first : IfErr r (λ e. (t : ℕ) × (t < count) × said t (Err e) × ((s : ℕ) → s < t → said s (Ok tt)))
