-- What checks 4, 5 and 14 leave of the list of transitions.
use Rattle.std.specs.Prelude.{List, ℕ, ◌≤◌, ◌<◌, ◌^◌, get_or}
use Rattle.hazard.specs.Limits.{most_moving}
use Rattle.hazard.specs.Cube.{distance}
use Rattle.hazard.specs.Transition.{start, end, count}

-- At most 64 transitions between points of n inputs, none of which moves more inputs than the limit.
pub record Listed (n : ℕ) (ts : List ℕ) : Type 0 where
  pub few : count ts ≤ 64
  pub within : (i : ℕ) → get_or ts i 0 < 2 ^ n
  pub narrow : (k : ℕ) → k < count ts → distance n (start ts k) (end ts k) ≤ most_moving
