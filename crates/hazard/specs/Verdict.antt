-- The verifier's verdict (document 01: the marker's).
use Rattle.std.specs.Prelude.{◌≡◌, ◌↔◌, Bool, not, ◌||◌, List, [], ◌∷◌, ◌++◌, ℕ, zero, suc, ◌*◌, ◌/◌, ◌%◌, eqb, ltb, length, take, drop, Option, None, Some, option_map}
use Rattle.hazard.specs.Limits.{most_products}
use Rattle.hazard.specs.Search.{first, first_place, find, first_of}
use Rattle.hazard.specs.Cube.{is_product}
use Rattle.hazard.specs.Transition.{off}
use Rattle.hazard.specs.Sets.{Required, Privileged, required, privileged}
use Rattle.hazard.specs.Implicant.{illegal, lowest_zero}
use Rattle.hazard.specs.Cover.{Network, product_at, covered, HazardFreeCover}
use Rattle.hazard.specs.HazardFree.{HazardFree}
use Rattle.hazard.specs.Refusal.{Refusal, product_refusal, refuse_if, input_checks}

-- A network's bytes, cut into count products of n.
abbrev pub cut : ℕ → ℕ → List ℕ → Network
cut n zero bytes = []
cut n (suc count) bytes = take n bytes ∷ cut n count (drop n bytes)

-- The products that a network's bytes stand for.
abbrev pub products : ℕ → List ℕ → Network
products n bytes = cut n (length bytes / n) bytes

-- 11: the length is no multiple of n, or there are more products than the limit.
abbrev pub products_check : ℕ → List ℕ → Option Refusal
products_check n bytes = refuse_if (not (eqb (length bytes % n) 0) || ltb most_products (length bytes / n)) 11

-- 12: a byte above 2; the first such product.
abbrev pub digits_check : ℕ → Network → Option Refusal
digits_check n net = option_map (λ j. product_refusal 12 j) (first (λ j. not (is_product n (product_at net j))) 0 (length net))

-- The checks of a network.
abbrev pub network_checks : ℕ → List ℕ → List (Option Refusal)
network_checks n bytes = products_check n bytes ∷ digits_check n (products n bytes) ∷ []

-- 15: the wire buffer, of room numbers, is shorter than two for each input of each product.
abbrev pub wires_check : ℕ → List ℕ → ℕ → Option Refusal
wires_check n bytes room = refuse_if (ltb room (2 * n * (length bytes / n))) 15

-- The verifier's own checks, after the input rules: of the network, then of the wire buffer.
abbrev pub own_checks : ℕ → List ℕ → ℕ → List (Option Refusal)
own_checks n bytes room = network_checks n bytes ++ (wires_check n bytes room ∷ [])

-- The verifier's checks, in their order.
abbrev pub verifier_checks : ℕ → List ℕ → List ℕ → List ℕ → ℕ → List (Option Refusal)
verifier_checks n f ts bytes room = input_checks n f ts ++ own_checks n bytes room

-- The verdict, with what it names.
pub data Verdict : Type 0 where
  refused : Refusal → Verdict
  passed : Verdict
  -- (a) fails: the product, and the point
  holds_zero : ℕ → ℕ → Verdict
  -- (c) fails: the product, and the transition
  intersects : ℕ → ℕ → Verdict
  -- (b) fails: the transition (of a single point, which has none, the number of transitions), and the label
  uncovered : ℕ → ℕ → Verdict

-- The first failure of (a), by product and then point.
abbrev pub fault_a : ℕ → (ℕ → Bool) → Network → Option (ℕ × ℕ)
fault_a n off net = first_place (λ j. lowest_zero n off (product_at net j)) 0 (length net)

-- The first failure of (c), by product and then transition.
abbrev pub fault_c : List Privileged → Network → Option (ℕ × ℕ)
fault_c vs net = first_place (λ j. option_map (λ (v : Privileged). v.transition) (find (illegal (product_at net j)) vs)) 0 (length net)

-- The first failure of (b), in the order of required cubes.
abbrev pub fault_b : List Required → Network → Option Required
fault_b rs net = find (λ r. not (covered net r.cube)) rs

-- The first fault, trying (a), then (c), then (b).
abbrev pub first_fault : Option (ℕ × ℕ) → Option (ℕ × ℕ) → Option Required → Verdict
first_fault a c b =
    elim a [
      | Some p ↦ holds_zero p.0 p.1
      | None ↦ elim c [ Some p ↦ intersects p.0 p.1 | None ↦ elim b [ Some r ↦ uncovered r.transition r.label | None ↦ passed ] ]
    ]

-- The verdict on a network, where nothing is refused.
abbrev pub fault : ℕ → List ℕ → List ℕ → Network → Verdict
fault n f ts net = first_fault (fault_a n (off f) net) (fault_c (privileged n f ts) net) (fault_b (required n f ts) net)

-- The verdict on a network's bytes, for a wire buffer of room numbers.
abbrev pub verdict : ℕ → List ℕ → List ℕ → List ℕ → ℕ → Verdict
verdict n f ts bytes room = elim (first_of (verifier_checks n f ts bytes room)) [ Some r ↦ refused r | None ↦ fault n f ts (products n bytes) ]

-- The verdict's number and the fields that go back with it. What a verdict does not name is 0.
pub record Fields : Type 0 where
  pub number : ℕ
  pub refusal : ℕ
  pub product : ℕ
  pub transition : ℕ
  pub point : ℕ

-- Document 01's number and values for each verdict.
abbrev pub fields_of : Verdict → Fields
fields_of (refused r) = record { number = 0; refusal = r.number; product = r.product; transition = r.transition; point = r.point }
fields_of passed = record { number = 1; refusal = 0; product = 0; transition = 0; point = 0 }
fields_of (holds_zero j x) = record { number = 2; refusal = 0; product = j; transition = 0; point = x }
fields_of (intersects j k) = record { number = 3; refusal = 0; product = j; transition = k; point = 0 }
fields_of (uncovered k x) = record { number = 4; refusal = 0; product = 0; transition = k; point = x }

-- What the verifier promises of its verdict.
pub record Verified (n : ℕ) (f ts bytes : List ℕ) (room : ℕ) (v : Verdict) : Type 0 where
  -- It is the definition's, for refused input too.
  pub is : v ≡ verdict n f ts bytes room
  -- So are its number and fields.
  pub fields : fields_of v ≡ fields_of (verdict n f ts bytes room)
  -- Where nothing is refused: passed exactly if conditions (a), (b) and (c) hold,
  pub covers : first_of (verifier_checks n f ts bytes room) ≡ None → (v ≡ passed) ↔ HazardFreeCover n f ts (products n bytes)
  -- and exactly if the network is hazard-free.
  pub hazard_free : first_of (verifier_checks n f ts bytes room) ≡ None → (v ≡ passed) ↔ HazardFree n f ts (products n bytes)
