-- Sets of rows as words of 64 bits: row k is bit k % 64 of word k / 64 (`in_set`).
use Rattle.std.specs.Prelude.{◌≡◌, Bool, not, ◌&&◌, List, ℕ, ◌*◌, ◌≤◌, ◌<◌, length}
use Rattle.cube.specs.PointSet.{in_set}
use Rattle.blocks.specs.Blocks.{stride}

-- The most words of a set: rows are counted in 16 bits, and 65,536 of them are 1,024 words.
abbrev pub most_words : ℕ
most_words = 1024

-- The columns have room for as many blocks as the set has words.
abbrev pub Fits : List ℕ → List ℕ → Type 0
Fits columns set = (length set ≤ stride columns) × (length set ≤ most_words)

-- The rows of a set that pass the test have gone over into another set.
pub record Split (test : ℕ → Bool) (before after taken : List ℕ) : Type 0 where
  pub long : length taken ≡ length before
  pub took : (k : ℕ) → k < 64 * length before → in_set taken k ≡ (in_set before k && test k)
  pub left : (k : ℕ) → k < 64 * length before → in_set after k ≡ (in_set before k && not (test k))
