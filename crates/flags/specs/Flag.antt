-- Flags: which required cubes lie in a chosen product.
use Rattle.std.specs.Prelude.{◌≡◌, Bool, true, false, not, cond, ◌&&◌, List, ℕ, ◌<◌, ltb, length, get_or}
use Rattle.hazard.specs.Cover.{Network, covered}
use Rattle.cube.specs.Entry.{cube_in}
use Rattle.cube.specs.PointSet.{in_set}
use Rattle.rows.specs.Sets.{Split}

-- A flag is set exactly if its required cube lies in a product of the network.
abbrev pub Flagged : ℕ → List ℕ → List Bool → Network → Type 0
Flagged n required flags net = (i : ℕ) → i < length required → get_or flags i false ≡ covered net (cube_in n (get_or required i 0))

-- The set holds the required cubes, of so many, whose flag is not set.
abbrev pub Unflagged : ℕ → List Bool → List ℕ → Type 0
Unflagged count flags set = (i : ℕ) → in_set set i ≡ (ltb i count && not (get_or flags i false))

-- The rows of a set that pass the test have gone over into another set, and are flagged.
pub record Flagging (test : ℕ → Bool) (before after taken : List ℕ) (old new : List Bool) : Type 0 where
  pub split' : Split test before after taken
  pub is : (i : ℕ) → get_or new i false ≡ cond (in_set taken i) true (get_or old i false)
