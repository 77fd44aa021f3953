-- What the choice keeps.
use Rattle.std.specs.Prelude.{◌≡◌, Bool, ℕ, ◌-◌, ◌≤◌, T, length, take, drop, None, Some, Result, Ok, Err}
use mathlib.Core.List.{List, Memᴰ}
use Rattle.hazard.specs.Cube.{Cube}
use Rattle.hazard.specs.Sets.{Required, Privileged}
use Rattle.hazard.specs.Implicant.{DhfPrime}
use Rattle.hazard.specs.Cover.{covered, Irredundant}
use Rattle.cube.specs.Entry.{CleanWord, network_in}
use Rattle.refusal.specs.Answer.{refusal_of}
use Rattle.selection.specs.Choose.{blocking_of}
use Rattle.refusal.specs.declared.refusal.Refusal.{Refusal}
use Rattle.selection.specs.declared.select.Places.{Places}

-- The words stand for a network of dhf-primes that covers every required cube, each with one of its own.
pub record KeptWords (n : ℕ) (off : ℕ → Bool) (vs : List Privileged) (rs : List Required) (words : List ℕ) : Type 0 where
  pub clean : (w : ℕ) → Memᴰ w words → CleanWord n w
  pub primes : (p : Cube) → Memᴰ p (network_in n words) → DhfPrime n off vs p
  pub covers : (q : Required) → Memᴰ q rs → T (covered (network_in n words) q.cube)
  pub own : Irredundant rs (network_in n words)
  pub few : length words ≤ length rs

-- No required cube blocks, and the products from a place to another are kept.
pub record KeptFrom (n : ℕ) (off : ℕ → Bool) (vs : List Privileged) (rs : List Required) (products : List ℕ) (from to : ℕ) : Type 0 where
  pub free : blocking_of n off vs rs ≡ None
  pub low : from ≤ to
  pub high : to ≤ length products
  pub kept : KeptWords n off vs rs (take (to - from) (drop from products))

-- The answer: where the kept products stand, or the refusal of the first required cube that blocks.
abbrev pub Selects : ℕ → (ℕ → Bool) → List Privileged → List Required → List ℕ → Result Places Refusal → Type 0
Selects n off vs rs products (Ok places) = KeptFrom n off vs rs products places.start places.end
Selects n off vs rs products (Err q) = blocking_of n off vs rs ≡ Some (refusal_of q)
