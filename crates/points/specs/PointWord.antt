-- One word of a set of points, and sixteen words as a set of points.
use Rattle.std.specs.Prelude.{◌≡◌, Bool, false, ◌&&◌, List, ℕ, ◌*◌, ◌/◌, ◌%◌, ◌^◌, ◌≤◌, ◌<◌, eqb}
use Rattle.hazard.specs.Search.{those}
use Rattle.hazard.specs.Cube.{bit}
use Rattle.points.specs.declared.word.Points.{Points}

-- The bits of r are the points of word w that pass the test.
pub record WordOf (test : ℕ → Bool) (w r : ℕ) : Type 0 where
  pub small : r < 2 ^ 64
  pub bits : (x : ℕ) → x / 64 ≡ w → eqb (bit r (x % 64)) 1 ≡ test x

-- The mask has the point's bit, and the point passes the test.
abbrev pub masked : ℕ → (ℕ → Bool) → ℕ → Bool
masked m test x = eqb (bit m (x % 64)) 1 && test x

-- The points of word w that are bits of r, ascending.
unfoldable pub points_in : ℕ → ℕ → List ℕ
points_in w r = those (λ x. eqb (bit r (x % 64)) 1) (64 * w) 64

-- The points that are still to come.
abbrev pub points_left : Points → List ℕ
points_left s = points_in s.word s.bits.left

-- They are all below size.
pub record Below (size w r : ℕ) : Type 0 where
  pub none : (x : ℕ) → x / 64 ≡ w → size ≤ x → eqb (bit r (x % 64)) 1 ≡ false
