-- Bit columns of words.
use Rattle.std.specs.Prelude.{List, [], ◌∷◌, ℕ, ◌+◌, ◌*◌}
use Rattle.hazard.specs.Cube.{bit}

-- Bit b of each word, word k giving bit k.
unfoldable pub column_of : ℕ → List ℕ → ℕ
column_of b [] = 0
column_of b (w ∷ ws) = column_of b ws * 2 + bit w b
