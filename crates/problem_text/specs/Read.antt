-- How a text is read, piece by piece. That this reads exactly the printed forms is a theorem of proofs/.
use Rattle.std.specs.Prelude.{◌≡◌, cond, ◌||◌, List, [], ◌∷◌, ℕ, ◌+◌, ◌*◌, ◌-◌, ◌≤◌, eqb, ltb, length, take, Option, None, Some, option_and_then}
use Rattle.std.specs.Char.{is_ascii_digit}
use Rattle.problem_text.specs.Form.{newline, space, transition_lines, flat, Numbers, Form, Formed}
use Rattle.problem_text.specs.declared.read.Sizes.{Sizes}

-- The number x with the digit c after it; a 0 takes none, and no number passes 65535.
abbrev pub extended : ℕ → ℕ → Option ℕ
extended x c = cond (eqb x 0 || ltb 65535 (x * 10 + (c - 48))) None (Some (x * 10 + (c - 48)))

-- The number x with all digits that follow, and what is left of the text.
abbrev pub more : ℕ → List ℕ → Option (ℕ × List ℕ)
more x [] = Some (x, [])
more x (c ∷ cs) = cond (is_ascii_digit c) (option_and_then (λ y. more y cs) (extended x c)) (Some (x, c ∷ cs))

-- The number that the text begins with.
abbrev pub number : List ℕ → Option (ℕ × List ℕ)
number [] = None
number (c ∷ cs) = cond (is_ascii_digit c) (more (c - 48) cs) None

-- The number x, where the byte e is what the text goes on with; and what is left after it.
abbrev pub ended : ℕ → ℕ → List ℕ → Option (ℕ × List ℕ)
ended e x [] = None
ended e x (c ∷ cs) = cond (eqb c e) (Some (x, cs)) None

-- The number that the text begins with, ended by the byte e.
abbrev pub field_by : ℕ → List ℕ → Option (ℕ × List ℕ)
field_by e cs = option_and_then (λ p. ended e p.0 p.1) (number cs)

-- The transition of the line that the text begins with.
abbrev pub transition_line : List ℕ → Option (ℕ × ℕ × List ℕ)
transition_line cs = option_and_then (λ p. option_and_then (λ q. Some (p.0, q.0, q.1)) (field_by newline p.1)) (field_by space cs)

-- The table value that a character stands for.
abbrev pub value_of : ℕ → Option ℕ
value_of c = cond (eqb c 48) (Some 0) (cond (eqb c 49) (Some 1) (cond (eqb c 45) (Some 2) None))

-- The table of the line that the text begins with.
abbrev pub table_line : List ℕ → Option (List ℕ × List ℕ)
table_line [] = None
table_line (c ∷ cs) = cond (eqb c newline) (Some ([], cs)) (option_and_then (λ d. option_and_then (λ p. Some (d ∷ p.0, p.1)) (table_line cs)) (value_of c))

-- The text is lines of transitions, whose numbers are the first k of ts; or it is none.
pub data Lines (cs ts : List ℕ) : Option ℕ → Type 0 where
  lines : {k : ℕ} (ps : List (ℕ × ℕ)) → cs ≡ transition_lines ps → Numbers ps → take k ts ≡ flat ps → k ≤ length ts → Lines cs ts (Some k)
  other : ((ps : List (ℕ × ℕ)) → Numbers ps → ¬ (cs ≡ transition_lines ps)) → Lines cs ts None

-- The text is of the form, its table is the beginning of f and its transitions are the beginning of ts, by the sizes; or it is not.
pub data Reading (text f ts : List ℕ) : Option Sizes → Type 0 where
  problem : {s : Sizes} (ps : List (ℕ × ℕ)) → Form text s.inputs (take s.table f) ps → take s.transitions ts ≡ flat ps → s.table ≤ length f → s.transitions ≤ length ts → Reading text f ts (Some s)
  malformed : ¬ Formed text → Reading text f ts None
