-- The points of a cube in ascending order.
use Rattle.std.specs.Prelude.{ℕ, ◌<◌, ◌^◌, T}
use Rattle.hazard.specs.Cube.{Cube, has}

-- y is the next point of the cube after x: there is none between, and y is in the cube, or past the last of the 2^n points.
pub record Next (n : ℕ) (c : Cube) (x y : ℕ) : Type 0 where
  pub later : x < y
  pub gap : (z : ℕ) → x < z → z < y → z < 2 ^ n → ¬ T (has c z)
  pub in' : y < 2 ^ n → T (has c y)
