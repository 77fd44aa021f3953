-- A cube with one of its literals inverted.
use Rattle.std.specs.Prelude.{cond, [], ◌∷◌, ℕ, zero, suc, ◌-◌, eqb}
use Rattle.hazard.specs.Cube.{Cube}

-- A literal inverted; an absent one stays absent.
abbrev pub inverse : ℕ → ℕ
inverse d = cond (eqb d 2) 2 (1 - d)

-- The literal of input i inverted.
abbrev pub invert : Cube → ℕ → Cube
invert [] i = []
invert (d ∷ ds) zero = inverse d ∷ ds
invert (d ∷ ds) (suc i) = d ∷ invert ds i
