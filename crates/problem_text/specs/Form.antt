-- The form of a text (document 01: the text program's input).
use Rattle.std.specs.Prelude.{◌≡◌, List, [], ◌∷◌, ◌++◌, map, ℕ, zero, suc, ◌≤◌, ◌<◌, length, get_or}
use Rattle.problem_text.specs.Decimal.{decimal}

-- The byte that ends a line.
abbrev pub newline : ℕ
newline = 10

-- The byte between the numbers of a transition.
abbrev pub space : ℕ
space = 32

-- A table value or a product's digit: 0, 1, or - for 2.
abbrev pub cell : ℕ → ℕ
cell zero = 48
cell (suc zero) = 49
cell (suc (suc d)) = 45

-- A line for each transition: its start, one space, its end.
abbrev pub transition_lines : List (ℕ × ℕ) → List ℕ
transition_lines [] = []
transition_lines (p ∷ ps) = decimal p.0 ++ (space ∷ decimal p.1 ++ (newline ∷ transition_lines ps))

-- The printed form: the number of inputs, the table, the transitions.
abbrev pub printed : ℕ → List ℕ → List (ℕ × ℕ) → List ℕ
printed n f ps = decimal n ++ (newline ∷ map cell f ++ (newline ∷ transition_lines ps))

-- The transitions as the calls take them, two numbers each.
abbrev pub flat : List (ℕ × ℕ) → List ℕ
flat [] = []
flat (p ∷ ps) = p.0 ∷ p.1 ∷ flat ps

-- Every value of the table is 0, 1 or 2.
abbrev pub Values : List ℕ → Type 0
Values f = (x : ℕ) → get_or f x 0 ≤ 2

-- Every number of the transitions is at most 65535.
abbrev pub Numbers : List (ℕ × ℕ) → Type 0
Numbers ps = (k : ℕ) → get_or (flat ps) k 0 < 65536

-- The text is of the form: at most 4,096 bytes that are the printed form of a number of inputs, a table of one or more values and a
-- list of transitions, with numbers from 0 to 65535.
pub record Form (text : List ℕ) (n : ℕ) (f : List ℕ) (ps : List (ℕ × ℕ)) : Type 0 where
  pub is : text ≡ printed n f ps
  pub short : length text ≤ 4096
  pub inputs : n < 65536
  pub filled : 0 < length f
  pub values : Values f
  pub numbers : Numbers ps

-- The text is of the form, whatever it says.
abbrev pub Formed : List ℕ → Type 0
Formed text = (n : ℕ) × (f : List ℕ) × (ps : List (ℕ × ℕ)) × Form text n f ps
