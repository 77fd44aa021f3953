-- What the forward choice leaves.
use Rattle.std.specs.Prelude.{◌≡◌, Bool, List, map, ℕ, ◌≤◌, ◌<◌, length, get_or, take, Option, None, Some, Result, Ok, Err}
use Rattle.hazard.specs.Search.{first_of}
use Rattle.hazard.specs.Sets.{Required, Privileged}
use Rattle.hazard.specs.Implicant.{DhfPrime}
use Rattle.hazard.specs.Refusal.{Refusal}
use Rattle.hazard.specs.Minimal.{block_check}
use Rattle.cube.specs.Entry.{required_in, CleanWord, cube_in}
use Rattle.refusal.specs.Answer.{refusal_of}
use Rattle.context.specs.declared.context.Context.{Context}
use Rattle.context.specs.Context.{off_in, privileged_of}
use Rattle.choice.specs.Keep.{Noted}
use Rattle.refusal.specs.declared.refusal.Refusal as code

-- The first of the required cubes that blocks.
abbrev pub blocking_of : ℕ → (ℕ → Bool) → List Privileged → List Required → Option Refusal
blocking_of n off vs rs = first_of (map (block_check n off vs) rs)

-- The word's product is a dhf-prime.
pub record PrimeWord (n : ℕ) (off : ℕ → Bool) (vs : List Privileged) (w : ℕ) : Type 0 where
  pub prime : DhfPrime n off vs (cube_in n w)
  pub clean : CleanWord n w

-- The first m products cover every required cube, whose first one is noted, and each is a dhf-prime.
pub record Chosen (n : ℕ) (off : ℕ → Bool) (vs : List Privileged) (required firsts products : List ℕ) (m : ℕ) : Type 0 where
  pub noted : Noted n required firsts (take m products)
  pub low : m ≤ length products
  pub good : (k : ℕ) → k < m → PrimeWord n off vs (get_or products k 0)

-- The choice's answer: no required cube blocks, and m products are chosen; or the refusal of the first that blocks.
abbrev pub Choice : Context → (required firsts products : List ℕ) → Result ℕ code.Refusal → Type 0
Choice k required firsts products (Ok m) =
    (blocking_of k.n.count (off_in k) (privileged_of k) (map (required_in k.n.count) required) ≡ None)
    × Chosen k.n.count (off_in k) (privileged_of k) required firsts products m
Choice k required firsts products (Err q) = blocking_of k.n.count (off_in k) (privileged_of k) (map (required_in k.n.count) required) ≡ Some (refusal_of q)
