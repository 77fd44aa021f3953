-- Networks and hazard-free covers: conditions (a), (b) and (c) of Theorem 2.10 of the source.
use Rattle.std.specs.Prelude.{Bool, false, ◌||◌, ℕ, zero, suc, ◌<◌, ◌^◌, T, length, get_or}
use mathlib.Core.List.{List, [], ◌∷◌, Memᴰ}
use Rattle.hazard.specs.Cube.{Cube, is_product, has, inside}
use Rattle.hazard.specs.Transition.{off}
use Rattle.hazard.specs.Sets.{Required, Privileged, required, privileged}
use Rattle.hazard.specs.Implicant.{illegal}

-- Products into one OR.
abbrev pub Network : Type 0
Network = List Cube

-- Product j of the network.
abbrev pub product_at : Network → ℕ → Cube
product_at net j = get_or net j []

-- Every entry is a product of n inputs.
abbrev pub WellFormed : ℕ → Network → Type 0
WellFormed n net = (p : Cube) → Memᴰ p net → T (is_product n p)

-- The network's value at a point: some product contains it.
abbrev pub gives : Network → ℕ → Bool
gives [] x = false
gives (p ∷ net) x = has p x || gives net x

-- The cube lies inside a single product of the network.
abbrev pub covered : Network → Cube → Bool
covered [] c = false
covered (p ∷ net) c = inside c p || covered net c

-- The network without its entry j.
abbrev pub without : ℕ → Network → Network
without j [] = []
without zero (p ∷ net) = net
without (suc j) (p ∷ net) = p ∷ without j net

-- A required cube that lies in product j of the network, and in no other product.
pub record Own (rs : List Required) (net : Network) (j : ℕ) : Type 0 where
  pub cube : Required
  pub listed : Memᴰ cube rs
  pub mine : T (inside cube.cube (product_at net j))
  pub alone : ¬ T (covered (without j net) cube.cube)

-- Each product has a required cube of its own.
abbrev pub Irredundant : List Required → Network → Type 0
Irredundant rs net = (j : ℕ) → j < length net → Own rs net j

-- (a) no product contains a point of the OFF-set; (b) each required cube lies in a single product; (c) no illegal intersection.
pub record Cover (n : ℕ) (off : ℕ → Bool) (rs : List Required) (vs : List Privileged) (net : Network) : Type 0 where
  pub a : (p : Cube) → Memᴰ p net → (x : ℕ) → x < 2 ^ n → T (off x) → ¬ T (has p x)
  pub b : (r : Required) → Memᴰ r rs → T (covered net r.cube)
  pub c : (p : Cube) → Memᴰ p net → (v : Privileged) → Memᴰ v vs → ¬ T (illegal p v)

-- A hazard-free cover of the table for its transitions (document 01: a cover).
abbrev pub HazardFreeCover : ℕ → List ℕ → List ℕ → Network → Type 0
HazardFreeCover n f ts net = Cover n (off f) (required n f ts) (privileged n f ts) net
