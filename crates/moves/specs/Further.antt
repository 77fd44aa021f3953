-- Moves into a set.
use Rattle.std.specs.Prelude.{◌≡◌, Bool, cond, ◌&&◌, ℕ, ◌^◌, ◌<◌, eqb}
use Rattle.hazard.specs.Search.{found, first}
use Rattle.hazard.specs.Cube.{bit, flip}
use Rattle.hazard.specs.Transition.{movable}

-- Bit k of m is 1 exactly where k has the value v at input i.
pub record Side (i v m : ℕ) : Type 0 where
  pub small : m < 2 ^ 64
  pub bits : (k : ℕ) → k < 64 → bit m k ≡ cond (eqb (bit k i) v) 1 0

-- Bit k of r is 1 exactly where k has the value v at input i, and the bit of k with input i moved is 1 in the word.
pub record Within (word i v r : ℕ) : Type 0 where
  pub small : r < 2 ^ 64
  pub bits : (k : ℕ) → k < 64 → eqb (bit r k) 1 ≡ (eqb (bit k i) v && eqb (bit word (flip k i)) 1)

-- Input i of x has the value v, and the point after its move is in the set.
abbrev pub moves_from : (ℕ → Bool) → ℕ → ℕ → ℕ → Bool
moves_from set v i x = eqb (bit x i) v && set (flip x i)

-- On the way from a to b, input i of x may still move, and the point after its move is in the set.
abbrev pub moves_into : (ℕ → Bool) → ℕ → ℕ → ℕ → ℕ → Bool
moves_into set a b i x = movable a b x i && set (flip x i)

-- Some point one move further from x is in the set.
abbrev pub further_in : ℕ → (ℕ → Bool) → ℕ → ℕ → ℕ → Bool
further_in n set a b x = found (first (λ i. moves_into set a b i x) 0 n)
