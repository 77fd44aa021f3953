-- What the program prints.
use Rattle.std.specs.Prelude.{List, [], ◌∷◌, ◌++◌, map, ℕ, ◌+◌, ◌*◌, length}
use Rattle.hazard.specs.Limits.{most_required}
use Rattle.hazard.specs.Cover.{Network}
use Rattle.hazard.specs.Refusal.{Refusal}
use Rattle.problem_text.specs.Decimal.{decimal}
use Rattle.problem_text.specs.Form.{newline, space, cell}

-- `products `
abbrev pub products_head : List ℕ
products_head = 112 ∷ 114 ∷ 111 ∷ 100 ∷ 117 ∷ 99 ∷ 116 ∷ 115 ∷ 32 ∷ []

-- `refused`
abbrev pub refused_head : List ℕ
refused_head = 114 ∷ 101 ∷ 102 ∷ 117 ∷ 115 ∷ 101 ∷ 100 ∷ []

-- A line for each product, a character for each input.
abbrev pub product_lines : Network → List ℕ
product_lines [] = []
product_lines (p ∷ net) = map cell p ++ (newline ∷ product_lines net)

-- A network: how many products, and the products.
abbrev pub network_text : Network → List ℕ
network_text net = products_head ++ (decimal (length net) ++ (newline ∷ product_lines net))

-- The bytes of the longest output: a head of 9, a count of 5, an end of line, and a line of 11 for each required cube.
abbrev pub most_output : ℕ
most_output = 15 + 11 * most_required

-- A field of a refusal, one space before it.
abbrev pub field : ℕ → List ℕ
field x = space ∷ decimal x

-- A refusal: number, transition, label or point, steps, lowest zero.
abbrev pub refusal_text : Refusal → List ℕ
refusal_text q = refused_head ++ (field q.number ++ (field q.transition ++ (field q.point ++ (field q.steps ++ (field q.lowest ++ (newline ∷ []))))))
