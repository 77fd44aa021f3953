-- Sets of rows as the bits of a word.
use Rattle.std.specs.Prelude.{◌≡◌, Bool, ◌&&◌, List, ℕ, ◌<◌, eqb, ltb, length, get_or}
use Rattle.hazard.specs.Cube.{bit}

-- r is the set of the rows that pass the test.
pub record Rows (test : ℕ → Bool) (rows : List ℕ) (r : ℕ) : Type 0 where
  pub is : (k : ℕ) → k < 64 → eqb (bit r k) 1 ≡ (ltb k (length rows) && test (get_or rows k 0))
