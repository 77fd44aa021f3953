-- Checks 1 to 5 and 14, and what they leave of a problem.
use Rattle.std.specs.Prelude.{◌≡◌, List, [], ◌∷◌, ◌++◌, ℕ, ◌^◌, ◌≤◌, ◌<◌, length, Option}
use Rattle.hazard.specs.Transition.{value}
use Rattle.hazard.specs.Refusal.{Refusal, inputs_check, table_checks, list_checks}

-- The runs before the table's planes are made.
abbrev pub form_checks : ℕ → (f ts : List ℕ) → List (Option Refusal)
form_checks n f ts = (inputs_check n ∷ []) ++ (table_checks n f ++ list_checks n ts)

-- A table of n inputs, with values 0 to 2.
pub record Formed (n : ℕ) (f : List ℕ) : Type 0 where
  pub whole : length f ≡ 2 ^ n
  pub bytes : (x : ℕ) → x < 2 ^ n → value f x ≤ 2
