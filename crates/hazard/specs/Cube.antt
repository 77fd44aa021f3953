-- Points, products and cubes. A point is a number, input i having weight 2^i in it.
-- A cube and a product are one thing: a list of digits, input 0 first, 0 for an inverted literal, 1 for a plain one, 2 for an absent one.
use Rattle.std.specs.Prelude.{Bool, true, false, cond, ◌&&◌, ◌||◌, List, [], ◌∷◌, ℕ, zero, suc, ◌+◌, ◌-◌, ◌/◌, ◌%◌, ◌^◌, eqb, leb}

-- A cube's digits.
abbrev pub Cube : Type 0
Cube = List ℕ

-- The value of input i at the point x.
abbrev pub bit : ℕ → ℕ → ℕ
bit x i = x / 2 ^ i % 2

-- The point x with input i moved.
abbrev pub flip : ℕ → ℕ → ℕ
flip x i = cond (eqb (bit x i) 0) (x + 2 ^ i) (x - 2 ^ i)

-- A product of n inputs: n digits, none above 2.
abbrev pub is_product : ℕ → List ℕ → Bool
is_product zero [] = true
is_product zero (d ∷ ds) = false
is_product (suc n) [] = false
is_product (suc n) (d ∷ ds) = leb d 2 && is_product n ds

-- A value, or a digit, fits a digit: the digit is absent, or the same.
abbrev pub fits : ℕ → ℕ → Bool
fits d e = eqb e 2 || eqb d e

-- The least digit that both fit.
abbrev pub over : ℕ → ℕ → ℕ
over d e = cond (eqb d e) d 2

-- The cube contains the point: the point's values fit its digits.
abbrev pub has : Cube → ℕ → Bool
has [] x = true
has (d ∷ ds) x = fits (x % 2) d && has ds (x / 2)

-- [P,Q], the transition cube over n inputs: the common value of an input, or no literal.
abbrev pub span : ℕ → ℕ → ℕ → Cube
span zero p q = []
span (suc n) p q = over (p % 2) (q % 2) ∷ span n (p / 2) (q / 2)

-- The Hamming distance of two points: at how many of n inputs they differ. A transition from a to b moves so many.
abbrev pub distance : ℕ → ℕ → ℕ → ℕ
distance zero a b = 0
distance (suc n) a b = cond (eqb (a % 2) (b % 2)) 0 1 + distance n (a / 2) (b / 2)

-- The supercube of a cube and a point: the smallest cube around both.
abbrev pub join : Cube → ℕ → Cube
join [] x = []
join (d ∷ ds) x = over d (x % 2) ∷ join ds (x / 2)

-- The supercube of two cubes: the smallest cube around both.
abbrev pub supercube : Cube → Cube → Cube
supercube [] [] = []
supercube [] (e ∷ es) = []
supercube (d ∷ ds) [] = []
supercube (d ∷ ds) (e ∷ es) = over d e ∷ supercube ds es

-- The two cubes share a point.
abbrev pub meets : Cube → Cube → Bool
meets [] [] = true
meets [] (e ∷ es) = false
meets (d ∷ ds) [] = false
meets (d ∷ ds) (e ∷ es) = (eqb d 2 || fits d e) && meets ds es

-- The first cube lies inside the second.
abbrev pub inside : Cube → Cube → Bool
inside [] [] = true
inside [] (e ∷ es) = false
inside (d ∷ ds) [] = false
inside (d ∷ ds) (e ∷ es) = fits d e && inside ds es
