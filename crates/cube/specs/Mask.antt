-- The digit list that two masks stand for.
use Rattle.std.specs.Prelude.{◌≡◌, cond, [], ◌∷◌, ℕ, zero, suc, ◌/◌, ◌%◌, ◌^◌, ◌<◌, eqb}
use Rattle.std.specs.Int.Bits.{bit_and}
use Rattle.hazard.specs.Cube as digits
use Rattle.cube.specs.declared.mask.Cube.{Cube}

-- A digit from its two bits: 2 where the input has no literal.
abbrev pub digit : ℕ → ℕ → ℕ
digit care value = cond (eqb care 0) 2 value

-- The digit of the cube at input i.
abbrev pub digit_at : Cube → ℕ → ℕ
digit_at c i = digit (digits.bit c.care i) (digits.bit c.value i)

-- Input i has bit i of the masks.
abbrev pub digits_of : ℕ → ℕ → ℕ → digits.Cube
digits_of zero care value = []
digits_of (suc n) care value = digit (care % 2) (value % 2) ∷ digits_of n (care / 2) (value / 2)

abbrev pub cube_of : ℕ → Cube → digits.Cube
cube_of n c = digits_of n c.care c.value

-- The masks are those of a cube of n inputs, with value 0 where there is no literal.
pub record Clean (n : ℕ) (c : Cube) : Type 0 where
  pub small : c.care < 2 ^ n
  pub clean : bit_and c.value c.care ≡ c.value

-- The masks stand for the digits ds.
pub record Stands (n : ℕ) (c : Cube) (ds : digits.Cube) : Type 0 where
  pub fits : Clean n c
  pub is : cube_of n c ≡ ds
