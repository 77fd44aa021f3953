-- The minimiser: its refusals, and what its network satisfies.
use Rattle.std.specs.Prelude.{◌≡◌, ◌↔◌, Bool, ℕ, ◌*◌, ◌≤◌, ◌<◌, T, ltb, length, drop, Option, None, Some}
use mathlib.Core.List.{List, [], ◌∷◌, ◌++◌, map, Memᴰ}
use Rattle.hazard.specs.Search.{first_of}
use Rattle.hazard.specs.Cube.{Cube, is_product}
use Rattle.hazard.specs.Transition.{off, count}
use Rattle.hazard.specs.Sets.{Required, Privileged, required, privileged}
use Rattle.hazard.specs.Implicant.{dhf_implicant, DhfPrime, StrictlyInside}
use Rattle.hazard.specs.Growth.{Growth, Legal, Blocked, Grown, grow}
use Rattle.hazard.specs.Cover.{Network, WellFormed, without, HazardFreeCover}
use Rattle.hazard.specs.HazardFree.{HazardFree}
use Rattle.hazard.specs.Sequence.{ascending}
use Rattle.hazard.specs.Refusal.{Refusal, growth_refusal, refuse_if, input_checks}

-- 10: the growth of a required cube ends blocked; the cube's transition and label, the steps of its growth, and the zero that it ends at.
abbrev pub blocked_by : Required → Growth → Option Refusal
blocked_by r (Legal c s) = None
blocked_by r (Blocked z s) = Some (growth_refusal 10 r.transition r.label s z)

-- The check of one required cube: whether it blocks.
abbrev pub block_check : ℕ → (ℕ → Bool) → List Privileged → Required → Option Refusal
block_check n off vs r = blocked_by r (grow n off vs r.cube)

module _ (n : ℕ) (f ts : List ℕ) where
  -- 9: the buffer is shorter than n bytes for each required cube.
  abbrev pub room_check : ℕ → Option Refusal
  room_check room = refuse_if (ltb room (n * length (required n f ts))) 9

  -- The first required cube that blocks.
  abbrev pub blocking : Option Refusal
  blocking = first_of (map (block_check n (off f) (privileged n f ts)) (required n f ts))

  -- The minimiser's checks, in their order, for a buffer of room bytes.
  abbrev pub minimiser_checks : ℕ → List (Option Refusal)
  minimiser_checks room = input_checks n f ts ++ (room_check room ∷ blocking ∷ [])

-- Refusal 10 is that of the first required cube that blocks: no earlier one does, it belongs to one of the transitions, and its growth took
-- at least one step and at most n.
pub record FirstBlocking (n : ℕ) (f ts : List ℕ) (q : Refusal) : Type 0 where
  pub earlier : List Required
  pub cube : Required
  pub later : List Required
  pub listed : required n f ts ≡ earlier ++ (cube ∷ later)
  pub free : (r : Required) → Memᴰ r earlier → Grown (grow n (off f) (privileged n f ts) r.cube)
  pub blocks : block_check n (off f) (privileged n f ts) cube ≡ Some q
  pub among : q.transition < count ts
  pub taken : 1 ≤ q.steps
  pub few : q.steps ≤ n

-- What holds of the minimiser's network: every product is a dhf-prime, the network is a hazard-free cover and hazard-free,
-- no product can be dropped, there are at most as many as required cubes, and each comes before the next.
pub record Minimal (n : ℕ) (f ts : List ℕ) (net : Network) : Type 0 where
  pub primes : (p : Cube) → Memᴰ p net → DhfPrime n (off f) (privileged n f ts) p
  pub cover : HazardFreeCover n f ts net
  pub hazard_free : HazardFree n f ts net
  pub irredundant : (j : ℕ) → j < length net → ¬ HazardFree n f ts (without j net)
  pub few : length net ≤ length (required n f ts)
  -- By points: no product is strictly inside a dhf-implicant.
  pub maximal : (p : Cube) → Memᴰ p net → (q : Cube) → T (is_product n q) → T (dhf_implicant n (off f) (privileged n f ts) q) → ¬ StrictlyInside n p q
  pub sequence : T (ascending net)

-- The bytes of a network, product after product.
abbrev pub bytes_of : Network → List ℕ
bytes_of [] = []
bytes_of (p ∷ net) = p ++ bytes_of net

-- The minimiser's answer: how many products it wrote, or its refusal.
pub data Minimised : Type 0 where
  written : ℕ → Minimised
  declined : Refusal → Minimised

-- There is no hazard-free network, of any size.
abbrev pub NoNetwork : ℕ → List ℕ → List ℕ → Type 0
NoNetwork n f ts = ¬ ((net : Network) × WellFormed n net × HazardFree n f ts net)

-- What the minimiser promises of its answer, and of the buffer before and after.
pub record Promise (n : ℕ) (f ts before after : List ℕ) (r : Minimised) : Type 0 where
  -- Refused as the checks say, the first that applies; and then the buffer is unchanged.
  pub refused : (q : Refusal) → first_of (minimiser_checks n f ts (length before)) ≡ Some q → (r ≡ declined q) × (after ≡ before)
  -- Not refused: a minimal network, as many products as the answer says, their bytes followed by the buffer's old rest.
  pub network : first_of (minimiser_checks n f ts (length before)) ≡ None
      → (net : Network) × (r ≡ written (length net)) × Minimal n f ts net × (after ≡ bytes_of net ++ drop (n * length net) before)
  -- Where checks 1 to 9 let it through: refusal 10 exactly if there is no hazard-free network.
  pub none' : first_of (input_checks n f ts ++ (room_check n f ts (length before) ∷ [])) ≡ None → ((q : Refusal) × (r ≡ declined q) × (q.number ≡ 10)) ↔ NoNetwork n f ts
  -- Refusal 10 names the first required cube that blocks, and the steps of its growth.
  pub blocks : (q : Refusal) → r ≡ declined q → q.number ≡ 10 → FirstBlocking n f ts q
