-- Bytes written to the beginning of a buffer.
use Rattle.std.specs.Prelude.{◌≡◌, List, ◌++◌, ℕ, length, drop}

-- The bytes stand at the buffer's beginning, so many are counted, and the rest is as before.
pub record Put (before bytes after : List ℕ) (count : ℕ) : Type 0 where
  pub is : after ≡ bytes ++ drop (length bytes) before
  pub counted : count ≡ length bytes
