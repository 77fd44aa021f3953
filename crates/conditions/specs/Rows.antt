-- Products as the rows of columns.
use Rattle.std.specs.Prelude.{List, ℕ}
use Rattle.hazard.specs.Cube.{inside}
use Rattle.cube.specs.Entry.{cube_in}
use Rattle.blocks.specs.Blocks.{Blocks}

-- The columns tell which of the words' cubes contain a cube.
abbrev pub Containing : ℕ → List ℕ → List ℕ → Type 0
Containing n rows columns = Blocks (λ w c. inside c (cube_in n w)) n rows columns
