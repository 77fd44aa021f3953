-- The points of a cube by words of 64, without those of another one.
use Rattle.std.specs.Prelude.{◌≡◌, Bool, false, not, cond, ◌&&◌, ℕ, ◌+◌, ◌/◌, ◌%◌, ◌^◌, ◌≤◌, ◌<◌, T, eqb, ltb, Option, MatchOption}
use Rattle.std.specs.Int.Bits.{bit_and, bit_xor}
use Rattle.hazard.specs.Search.{first}
use Rattle.hazard.specs.Cube.{bit, has}
use Rattle.cube.specs.Mask.{cube_of, Clean}
use Rattle.cube.specs.WordMask.{differs}
use Rattle.cube.specs.declared.mask.Cube.{Cube}
use Rattle.points.specs.declared.walk.Walk.{Walk}
use Rattle.points.specs.declared.walk.Step.{Step}
use Rattle.points.specs.declared.steps.Walking.{Walking}

-- The cube r of ten inputs has the points of the cube c of n inputs: its further literals are 0.
pub record Ten (n : ℕ) (c r : Cube) : Type 0 where
  pub fits : Clean 10 r
  pub same : (x : ℕ) → x < 1024 → eqb (differs r x) 0 ≡ (eqb (differs c x) 0 && ltb x (2 ^ n))

-- The point's word is one of the cube h, and the mask has the point's bit.
abbrev pub in_words : Cube → ℕ → ℕ → Bool
in_words h m x = eqb (differs h (x / 64)) 0 && eqb (bit m (x % 64)) 1

-- The walk comes to the point.
abbrev pub visits : Walk → ℕ → Bool
visits k x = in_words k.words k.mask x && not (in_words k.old k.gone x)

-- The lowest point that the walk comes to and that passes the test.
unfoldable pub lowest_on : Walk → (ℕ → Bool) → Option ℕ
lowest_on k test = first (λ x. visits k x && test x) 0 1024

-- The walk comes to the points of n inputs that pass the test, and to no others.
pub record Walks (n : ℕ) (k : Walk) (test : ℕ → Bool) : Type 0 where
  pub is : (x : ℕ) → x < 1024 → visits k x ≡ (test x && ltb x (2 ^ n))

-- The mask for word w: without the old bits, where the old cube has points in it.
abbrev pub bits_at : Walk → ℕ → ℕ
bits_at k w = cond (eqb (differs k.old w) 0) (bit_xor k.mask (bit_and k.mask k.gone)) k.mask

-- The step stands at a word of the walk, with the bits of its points; or past the last of the 16 words.
pub record At (k : Walk) (s : Step) : Type 0 where
  pub on : s.word < 16 → T (has (cube_of 4 k.words) s.word)
  pub small : s.mask < 2 ^ 64
  pub bits : s.word < 16 → (x : ℕ) → x / 64 ≡ s.word → eqb (bit s.mask (x % 64)) 1 ≡ visits k x

-- The step is the first one from a word on: the walk comes to no point of the words between.
pub record Steps (k : Walk) (from : ℕ) (s : Step) : Type 0 where
  pub later : from ≤ s.word
  pub at' : At k s
  pub gap : (x : ℕ) → from ≤ x / 64 → x / 64 < s.word → x / 64 < 16 → visits k x ≡ false

-- The step that is next stands in the walk.
abbrev pub UnderWay : Walking → Type 0
UnderWay s = At s.walk s.next

-- What was next was given, and the step after it is next; or no word of the 16 was left.
abbrev pub Stepped : Walking → Option Step → Walking → Type 0
Stepped s r t = MatchOption r (16 ≤ s.next.word) (λ x. (x ≡ s.next) × (x.word < 16) × (t.walk ≡ s.walk) × Steps s.walk (x.word + 1) t.next)
