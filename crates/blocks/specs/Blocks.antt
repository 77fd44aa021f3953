-- Rows in blocks of 64: for each input and digit a run of words, word b of it for rows 64 b to 64 b + 63.
use Rattle.std.specs.Prelude.{◌≡◌, ◌≢◌, Bool, true, ◌&&◌, List, ℕ, zero, suc, ◌+◌, ◌*◌, ◌/◌, ◌%◌, ◌<◌, eqb, length, get_or}
use Rattle.hazard.specs.Cube as digits
use Rattle.hazard.specs.Cube.{bit}
use Rattle.cube.specs.Mask.{digit_at, cube_of}
use Rattle.cube.specs.declared.mask.Cube.{Cube}
use Rattle.columns.specs.Relation.{allows}
use Rattle.columns.specs.declared.relation.Relation.{Relation}

-- How many blocks the columns have room for: a block has a word for each of ten inputs and three digits.
abbrev pub stride : List ℕ → ℕ
stride columns = length columns / 30

-- Where the run of input i and digit d begins, with so many words in each run.
abbrev pub run_of : ℕ → ℕ → ℕ → ℕ
run_of words i d = words * (3 * i + d)

-- The word of input i and digit d for block b.
abbrev pub word_at : List ℕ → ℕ → ℕ → ℕ → ℕ
word_at columns i d b = get_or columns (run_of (stride columns) i d + b) 0

-- Row k has its bit in the words of input i and digit d.
abbrev pub allowed : List ℕ → ℕ → ℕ → ℕ → Bool
allowed columns k i d = eqb (bit (word_at columns i d (k / 64)) (k % 64)) 1

-- Row k has its bit for each input below n, in the words of the cube's digit there.
abbrev pub allowed_to : List ℕ → ℕ → Cube → ℕ → Bool
allowed_to columns k c zero = true
allowed_to columns k c (suc i) = allowed_to columns k c i && allowed columns k i (digit_at c i)

-- The columns were made from the rows: a row has its bits for all digits of a cube exactly where it is related to the cube.
pub record Blocks (related : ℕ → digits.Cube → Bool) (n : ℕ) (rows columns : List ℕ) : Type 0 where
  pub is : (k : ℕ) → k < length rows → (c : Cube) → allowed_to columns k c n ≡ related (get_or rows k 0) (cube_of n c)

-- The words of block b are those of its rows; the words of other blocks are as they were.
pub record BlockFilled (rel : Relation) (n : ℕ) (rows : List ℕ) (b : ℕ) (before after : List ℕ) : Type 0 where
  pub long : length after ≡ length before
  pub is : (i d k : ℕ) → i < n → d < 3 → k < length rows → eqb (bit (word_at after i d b) k) 1 ≡ allows rel (get_or rows k 0) i d
  pub others : (i d a : ℕ) → a < stride before → a ≢ b → word_at after i d a ≡ word_at before i d a
