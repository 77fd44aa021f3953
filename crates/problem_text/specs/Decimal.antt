-- Numbers as text.
use Rattle.std.specs.Prelude.{cond, List, [], ◌∷◌, ◌++◌, ℕ, zero, suc, ◌+◌, ◌/◌, ◌%◌, ltb}

-- The ASCII code of a decimal digit.
abbrev pub digit : ℕ → ℕ
digit d = 48 + d

-- A number of at most k decimal digits, without leading zeros.
abbrev pub spelled : ℕ → ℕ → List ℕ
spelled zero x = []
spelled (suc k) x = cond (ltb x 10) (digit x ∷ []) (spelled k (x / 10) ++ (digit (x % 10) ∷ []))

-- A number below 100,000.
abbrev pub decimal : ℕ → List ℕ
decimal x = spelled 5 x
