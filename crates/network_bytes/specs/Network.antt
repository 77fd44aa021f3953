-- What is read of a network's bytes.
use Rattle.std.specs.Prelude.{◌≡◌, List, ℕ, ◌/◌, ◌%◌, ◌≤◌, ◌<◌, length, get_or, take}
use Rattle.hazard.specs.Limits.{most_products}
use Rattle.hazard.specs.Cover.{WellFormed}
use Rattle.hazard.specs.Verdict.{products}
use Rattle.cube.specs.Entry.{CleanWord, network_in}

-- A network's bytes that checks 11 and 12 let through.
pub record Sound (n : ℕ) (bytes : List ℕ) : Type 0 where
  pub some' : 1 ≤ n
  pub small : n ≤ 10
  pub even : length bytes % n ≡ 0
  pub few : length bytes / n ≤ most_products
  pub digits : WellFormed n (products n bytes)

-- The first r words stand for the network's products.
pub record Read (n : ℕ) (bytes words : List ℕ) (r : ℕ) : Type 0 where
  pub is : network_in n (take r words) ≡ products n bytes
  pub low : r ≤ length words
  pub clean : (i : ℕ) → i < r → CleanWord n (get_or words i 0)
