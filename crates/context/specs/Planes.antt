-- The points of a table with a value.
use Rattle.std.specs.Prelude.{◌≡◌, Bool, false, cond, ◌&&◌, ◌||◌, List, [], ◌∷◌, ℕ, ◌+◌, ◌*◌, ◌^◌, ◌≤◌, T, eqb, ltb, length}
use Rattle.hazard.specs.Transition.{value}
use Rattle.cube.specs.PointSet.{in_set}

-- x is a point of the table, with the value v.
abbrev pub valued : List ℕ → ℕ → ℕ → Bool
valued f v x = ltb x (length f) && eqb (value f x) v

-- The word of points: bit i is 1 where the value of point i is v.
unfoldable pub plane_word : ℕ → List ℕ → ℕ
plane_word v [] = 0
plane_word v (y ∷ f) = plane_word v f * 2 + cond (eqb y v) 1 0

-- The words hold the set of the points with the value v.
pub record Plane (f : List ℕ) (v : ℕ) (words : List ℕ) : Type 0 where
  pub is : (x : ℕ) → in_set words x ≡ valued f v x

-- The two sets are the planes of a table of n inputs: no point has both values, and no other number has one.
pub record Apart (n : ℕ) (zeros ones : List ℕ) : Type 0 where
  pub apart : (x : ℕ) → T (in_set zeros x) → in_set ones x ≡ false
  pub past : (x : ℕ) → 2 ^ n ≤ x → (in_set zeros x || in_set ones x) ≡ false
