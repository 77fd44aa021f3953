-- Entries stored in lent words.
use Rattle.std.specs.Prelude.{◌≡◌, Option, List, ◌++◌, map, ℕ, ◌+◌, ◌<◌, length, get_or, take}
use Rattle.std.specs.Option.{unwrap_or}
use Rattle.hazard.specs.Cube.{span}
use Rattle.hazard.specs.Sets.{Required}
use Rattle.cube.specs.Entry.{CleanWord}

-- From place k to place r the words now hold what was added, as far as there are words; what stood before k is kept.
pub record Stored {A : Type 0} (n : ℕ) (read : ℕ → A) (before after : List ℕ) (k r : ℕ) (added : List A) : Type 0 where
  pub is : map read (take r after) ≡ take (length after) (map read (take k before) ++ added)
  pub size : r ≡ k + length added
  pub long : length after ≡ length before
  pub clean : ((i : ℕ) → i < k → CleanWord n (get_or before i 0)) → (i : ℕ) → i < r → CleanWord n (get_or after i 0)

-- The required cube of transition t between a corner s and a label x.
abbrev pub required_to : ℕ → ℕ → ℕ → ℕ → Required
required_to n t s x = record { transition = t; label = x; cube = span n s x }

-- The same, where the corner may be the label itself.
abbrev pub required_at : ℕ → ℕ → Option ℕ → ℕ → Required
required_at n t corner x = required_to n t (unwrap_or corner x) x
