-- Unions of sets of points.
use Rattle.std.specs.Prelude.{◌≡◌, Bool, ◌||◌, List, ℕ, ◌<◌, length}
use Rattle.cube.specs.PointSet.{in_set}

-- The points of the set before, and those that pass the test, among the numbers below 1024.
pub record Joined (test : ℕ → Bool) (before after : List ℕ) : Type 0 where
  pub long : length after ≡ length before
  pub is : (x : ℕ) → x < 1024 → in_set after x ≡ (in_set before x || test x)
