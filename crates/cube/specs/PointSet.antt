-- A set of points as words of 64 bits: point x is bit x % 64 of word x / 64.
use Rattle.std.specs.Prelude.{Bool, List, ℕ, ◌/◌, ◌%◌, eqb, get_or}
use Rattle.hazard.specs.Cube.{bit}

abbrev pub in_set : List ℕ → ℕ → Bool
in_set words x = eqb (bit (get_or words (x / 64) 0) (x % 64)) 1
