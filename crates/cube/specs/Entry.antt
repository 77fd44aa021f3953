-- A cube with a transition and a point, packed into one word of 64 bits: a required cube with its label, or a privileged cube with its start point.
use Rattle.std.specs.Prelude.{◌≡◌, List, map, ℕ, ◌/◌, ◌%◌, ◌<◌, ◌^◌}
use Rattle.std.specs.Int.Bits.{bit_and}
use Rattle.hazard.specs.Cube.{Cube}
use Rattle.hazard.specs.Sets.{Required, Privileged}
use Rattle.hazard.specs.Cover.{Network}
use Rattle.cube.specs.Mask.{digits_of}

-- The four fields, 16 bits each, from the highest.
abbrev pub transition_in : ℕ → ℕ
transition_in w = w / 281474976710656

abbrev pub point_in : ℕ → ℕ
point_in w = w / 4294967296 % 65536

abbrev pub care_in : ℕ → ℕ
care_in w = w / 65536 % 65536

abbrev pub value_in : ℕ → ℕ
value_in w = w % 65536

-- The bits of a word at which three of them begin.
abbrev pub value_bit : ℕ
value_bit = 0

abbrev pub care_bit : ℕ
care_bit = 16

abbrev pub point_bit : ℕ
point_bit = 32

-- The cubes and networks that words stand for.
abbrev pub cube_in : ℕ → ℕ → Cube
cube_in n w = digits_of n (care_in w) (value_in w)

abbrev pub network_in : ℕ → List ℕ → Network
network_in n ws = map (cube_in n) ws

abbrev pub required_in : ℕ → ℕ → Required
required_in n w = record { transition = transition_in w; label = point_in w; cube = cube_in n w }

abbrev pub privileged_in : ℕ → ℕ → Privileged
privileged_in n w = record { transition = transition_in w; cube = cube_in n w; start = point_in w }

-- The word holds these four.
pub record Packed (w transition point care value : ℕ) : Type 0 where
  pub transition' : transition_in w ≡ transition
  pub point' : point_in w ≡ point
  pub care' : care_in w ≡ care
  pub value' : value_in w ≡ value

-- The word's cube and point are those of n inputs.
pub record CleanWord (n w : ℕ) : Type 0 where
  pub small : care_in w < 2 ^ n
  pub clean : bit_and (value_in w) (care_in w) ≡ value_in w
  pub point : point_in w < 2 ^ n
