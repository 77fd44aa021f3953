-- How a row, which is a packed word, is related to a cube.
use Rattle.std.specs.Prelude.{Bool, ◌||◌, ℕ, eqb}
use Rattle.hazard.specs.Cube.{Cube, bit, fits, has, meets, inside}
use Rattle.cube.specs.Mask.{digit}
use Rattle.cube.specs.Entry.{care_in, value_in, point_in, cube_in}
use Rattle.columns.specs.declared.relation.Relation.{Relation}
use Rattle.columns.specs.declared.relation.Relation.TheVariants.{Inside, Meets, Contains, PointInside}

-- The digit of the row's cube at input i.
abbrev pub digit_in : ℕ → ℕ → ℕ
digit_in w i = digit (bit (care_in w) i) (bit (value_in w) i)

-- At input i the row w allows the digit d of the cube.
abbrev pub allows : Relation → ℕ → ℕ → ℕ → Bool
allows Inside w i d = fits (digit_in w i) d
allows Meets w i d = eqb d 2 || fits d (digit_in w i)
allows Contains w i d = fits d (digit_in w i)
allows PointInside w i d = fits (bit (point_in w) i) d

-- The row w is related to the cube c of n inputs.
abbrev pub relates : Relation → ℕ → Cube → ℕ → Bool
relates Inside n c w = inside (cube_in n w) c
relates Meets n c w = meets c (cube_in n w)
relates Contains n c w = inside c (cube_in n w)
relates PointInside n c w = has c (point_in w)
