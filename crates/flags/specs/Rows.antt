-- Packed words as the rows of columns, and rows in a word of a set.
use Rattle.std.specs.Prelude.{Bool, ◌&&◌, List, ℕ, ◌/◌, ◌%◌, eqb}
use Rattle.hazard.specs.Cube.{bit, inside}
use Rattle.cube.specs.Entry.{cube_in}
use Rattle.blocks.specs.Blocks.{Blocks}

-- The columns tell which of the words' cubes lie inside a cube.
abbrev pub Inside : ℕ → List ℕ → List ℕ → Type 0
Inside n rows columns = Blocks (λ w c. inside (cube_in n w) c) n rows columns

-- Row i stands in word b of a set.
abbrev pub in_word : ℕ → ℕ → ℕ → Bool
in_word b word i = eqb (i / 64) b && eqb (bit word (i % 64)) 1
