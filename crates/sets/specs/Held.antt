-- Words that hold a list, and the lists that they are to hold.
use Rattle.std.specs.Prelude.{◌≡◌, List, map, ℕ, ◌<◌, length, get_or, take}
use Rattle.hazard.specs.Cube.{span}
use Rattle.hazard.specs.Transition.{Kind}
use Rattle.hazard.specs.Sets.{Required, Privileged, labels, start_point}
use Rattle.cube.specs.Entry.{CleanWord}
use Rattle.entries.specs.Store.{required_to}

-- The list l has r entries, and the words hold as many of them as there are words.
pub record Held {A : Type 0} (n : ℕ) (read : ℕ → A) (before after : List ℕ) (r : ℕ) (l : List A) : Type 0 where
  pub is : map read (take r after) ≡ take (length after) l
  pub size : r ≡ length l
  pub long : length after ≡ length before
  pub clean : (i : ℕ) → i < r → CleanWord n (get_or after i 0)

-- The required cubes of transition t from a to b, which is of the kind k, and its privileged cube.
abbrev pub required_by : ℕ → List ℕ → Kind → ℕ → ℕ → ℕ → List Required
required_by n f k t a b = map (required_to n t (start_point k a b)) (labels n f k a b)

abbrev pub privileged_by : ℕ → Kind → ℕ → ℕ → ℕ → Privileged
privileged_by n k t a b = record { transition = t; cube = span n a b; start = start_point k a b }
