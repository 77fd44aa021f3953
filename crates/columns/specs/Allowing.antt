-- The rows that allow each digit of a cube, as the bits of three words.
use Rattle.std.specs.Prelude.{◌≡◌, Bool, List, ℕ, ◌<◌, eqb, length, get_or}
use Rattle.hazard.specs.Cube.{bit}
use Rattle.cube.specs.Mask.{digit}
use Rattle.columns.specs.Relation.{allows}
use Rattle.columns.specs.declared.relation.Relation.{Relation}
use Rattle.columns.specs.declared.relation.Allowed.{Allowed}

-- Bit k of the words for the digits 0, 1 and 2 tells whether the row digit at bit k of the two columns passes the test with that digit.
pub record Allowing (test : ℕ → ℕ → Bool) (care value : ℕ) (r : Allowed) : Type 0 where
  pub zero' : (k : ℕ) → k < 64 → eqb (bit r.zero k) 1 ≡ test (digit (bit care k) (bit value k)) 0
  pub one' : (k : ℕ) → k < 64 → eqb (bit r.one k) 1 ≡ test (digit (bit care k) (bit value k)) 1
  pub absent' : (k : ℕ) → k < 64 → eqb (bit r.absent k) 1 ≡ test (digit (bit care k) (bit value k)) 2

-- The two columns have the digit of each row.
pub record DigitsAt (digit_of : ℕ → ℕ) (rows : List ℕ) (care value : ℕ) : Type 0 where
  pub digits : (k : ℕ) → k < length rows → digit (bit care k) (bit value k) ≡ digit_of (get_or rows k 0)

-- Bit k of the words tells whether row k, at input i, allows the digits 0, 1 and 2 of the cube.
pub record AllowedAt (rel : Relation) (rows : List ℕ) (i : ℕ) (r : Allowed) : Type 0 where
  pub zero' : (k : ℕ) → k < length rows → eqb (bit r.zero k) 1 ≡ allows rel (get_or rows k 0) i 0
  pub one' : (k : ℕ) → k < length rows → eqb (bit r.one k) 1 ≡ allows rel (get_or rows k 0) i 1
  pub absent' : (k : ℕ) → k < length rows → eqb (bit r.absent k) 1 ≡ allows rel (get_or rows k 0) i 2
