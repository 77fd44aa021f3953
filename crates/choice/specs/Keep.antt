-- What the choice is handed, and what it leaves.
use Rattle.std.specs.Prelude.{◌≡◌, Bool, false, not, ◌&&◌, ℕ, ◌≤◌, ◌<◌, T, eqb, length, get_or, drop, Some}
use mathlib.Core.List.{List, map, Memᴰ}
use Rattle.hazard.specs.Limits.{most_required}
use Rattle.hazard.specs.Sets.{Required}
use Rattle.hazard.specs.Cover.{covered, Irredundant}
use Rattle.cube.specs.Entry.{required_in, cube_in, network_in}
use Rattle.choice.specs.First.{first_in}

-- Required cube i has product j for its first, and its flag is not set.
abbrev pub needed_in : List ℕ → List Bool → ℕ → ℕ → Bool
needed_in firsts flags j i = eqb (get_or firsts i 0) j && not (get_or flags i false)

-- At the place of each required cube's first product stands the lowest required cube with that first.
pub record Lowest (firsts lowest : List ℕ) : Type 0 where
  pub low : (i : ℕ) → i < length firsts → get_or lowest (get_or firsts i 0) 0 ≤ i
  pub same : (i : ℕ) → i < length firsts → get_or firsts (get_or lowest (get_or firsts i 0) 0) 0 ≡ get_or firsts i 0

-- For each required cube the place of its first product is noted, and there are no more products than required cubes.
pub record Noted (n : ℕ) (required firsts products : List ℕ) : Type 0 where
  pub each : (i : ℕ) → i < length required → first_in (network_in n products) (cube_in n (get_or required i 0)) ≡ Some (get_or firsts i 0)
  pub whole : length firsts ≡ length required
  pub many : length required ≤ most_required
  pub few : length products ≤ length required

-- Of the products, those from place r on are kept: they cover every required cube, and each has one of its own.
pub record Kept (n : ℕ) (required before after : List ℕ) (r : ℕ) : Type 0 where
  pub long : length after ≡ length before
  pub low : r ≤ length after
  pub same : (k : ℕ) → k < length after → Memᴰ (get_or after k 0) before
  pub covers : (q : Required) → Memᴰ q (map (required_in n) required) → T (covered (network_in n (drop r after)) q.cube)
  pub own : Irredundant (map (required_in n) required) (network_in n (drop r after))
