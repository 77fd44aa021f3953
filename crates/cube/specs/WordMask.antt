-- The points of a cube by words of 64: inputs 0 to 5 choose the bit, the inputs from 6 on choose the word.
use Rattle.std.specs.Prelude.{◌≡◌, ℕ, ◌/◌, ◌%◌, ◌^◌, ◌<◌, eqb}
use Rattle.std.specs.Int.Bits.{bit_and, bit_xor}
use Rattle.hazard.specs.Cube.{bit}
use Rattle.cube.specs.Mask.{Clean}
use Rattle.cube.specs.declared.mask.Cube.{Cube}

-- The inputs at which the point differs from the cube's literals, as bits: 0 for a point of the cube.
abbrev pub differs : Cube → ℕ → ℕ
differs c x = bit_and (bit_xor x c.value) c.care

-- Bit b of the mask is 1 exactly where b, as the values of the inputs below i, agrees with the cube's literals.
pub record Marks (c : Cube) (i m : ℕ) : Type 0 where
  pub small : m < 2 ^ (2 ^ i)
  pub marks : (x : ℕ) → eqb (bit m (x % 2 ^ i)) 1 ≡ eqb (differs c x % 2 ^ i) 0

-- The points of the cube h are the numbers of the words that have points of the cube c: c's literals on the inputs from 6 on.
pub record Words (c h : Cube) : Type 0 where
  pub fits : Clean 4 h
  pub word : (x : ℕ) → differs h (x / 64) ≡ differs c x / 64
