-- The first product that contains a cube.
use Rattle.std.specs.Prelude.{Option, ℕ, length}
use Rattle.hazard.specs.Search.{first}
use Rattle.hazard.specs.Cube.{Cube, inside}
use Rattle.hazard.specs.Cover.{Network, product_at}

-- The place of the first product that contains the cube.
abbrev pub first_in : Network → Cube → Option ℕ
first_in net c = first (λ j. inside c (product_at net j)) 0 (length net)
