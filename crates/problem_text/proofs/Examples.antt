-- Texts that are of the form, and texts that are not.
use mathlib.Core.Path.{refl}
use mathlib.Core.List.{List, [], ◌∷◌}
use Prim.Native.Nat.{ℕ, zero, suc}
use native.Mathlib.Omega.{arith}
use Rattle.problem_text.specs.Form.{Form, Formed, Numbers}
use Rattle.problem_text.proofs.Readings.{no_inputs, no_table, whole_form}

-- 3, 01010011, 3 7, a line each.
abbrev pub k4_text : List ℕ
k4_text = 51 ∷ 10 ∷ 48 ∷ 49 ∷ 48 ∷ 49 ∷ 48 ∷ 48 ∷ 49 ∷ 49 ∷ 10 ∷ 51 ∷ 32 ∷ 55 ∷ 10 ∷ []

k4-numbers : Numbers ((3, 7) ∷ [])
k4-numbers zero = omega arith
k4-numbers (suc zero) = omega arith
k4-numbers (suc (suc k)) = omega arith

-- The text of K4 is of the form.
pub k4_form : Form k4_text 3 (0 ∷ 1 ∷ 0 ∷ 1 ∷ 0 ∷ 0 ∷ 1 ∷ 1 ∷ []) ((3, 7) ∷ [])
k4_form =
    whole_form k4_text 3 (48 ∷ 49 ∷ 48 ∷ 49 ∷ 48 ∷ 48 ∷ 49 ∷ 49 ∷ 10 ∷ 51 ∷ 32 ∷ 55 ∷ 10 ∷ []) refl (0 ∷ 1 ∷ 0 ∷ 1 ∷ 0 ∷ 0 ∷ 1 ∷ 1 ∷ []) (51 ∷ 32 ∷ 55 ∷ 10 ∷ []) refl (omega arith) (omega arith)
    ((3, 7) ∷ []) refl k4-numbers

-- So is one without a line for a transition: 2, 0110.
pub function_form : Form (50 ∷ 10 ∷ 48 ∷ 49 ∷ 49 ∷ 48 ∷ 10 ∷ []) 2 (0 ∷ 1 ∷ 1 ∷ 0 ∷ []) []
function_form =
    whole_form (50 ∷ 10 ∷ 48 ∷ 49 ∷ 49 ∷ 48 ∷ 10 ∷ []) 2 (48 ∷ 49 ∷ 49 ∷ 48 ∷ 10 ∷ []) refl (0 ∷ 1 ∷ 1 ∷ 0 ∷ []) [] refl (omega arith) (omega arith)
    [] refl (λ k. omega arith)

-- A number with a leading zero is not: 03.
pub leading_zero : (rest : List ℕ) → ¬ Formed (48 ∷ 51 ∷ rest)
leading_zero rest = no_inputs (48 ∷ 51 ∷ rest) refl

-- Nor is a table whose line does not end: 1, 11.
pub no_newline : ¬ Formed (49 ∷ 10 ∷ 49 ∷ 49 ∷ [])
no_newline = no_table (49 ∷ 10 ∷ 49 ∷ 49 ∷ []) 1 (49 ∷ 49 ∷ []) refl refl
