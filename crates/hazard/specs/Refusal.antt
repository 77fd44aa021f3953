-- What goes back when work is declined, and the input rules: checks 1 to 8, and 14 after 5.
use Rattle.std.specs.Prelude.{◌≡◌, Bool, cond, not, ◌||◌, List, [], ◌∷◌, ◌++◌, ℕ, ◌%◌, ◌^◌, eqb, leb, ltb, length, Option, None, Some, option_map}
use Rattle.hazard.specs.Limits.{most_moving, most_required}
use Rattle.hazard.specs.Search.{first, first_place, first_of}
use Rattle.hazard.specs.Cube.{distance}
use Rattle.hazard.specs.Transition.{value, start, end, count, function_hazard_at, undefined_at}
use Rattle.hazard.specs.Sets.{required}

-- A refusal: its number, and all that any refusal names. What a refusal does not name is 0.
pub record Refusal : Type 0 where
  pub number : ℕ
  pub transition : ℕ
  -- a label or a point
  pub point : ℕ
  pub steps : ℕ
  -- the lowest zero
  pub lowest : ℕ
  pub product : ℕ

-- Every refusal is made here: number, transition, point, steps, lowest zero, product.
abbrev pub refusal_with : ℕ → ℕ → ℕ → ℕ → ℕ → ℕ → Refusal
refusal_with number k x s z j = record { number = number; transition = k; point = x; steps = s; lowest = z; product = j }

-- The three shapes: with a transition and a point,
abbrev pub refusal : ℕ → ℕ → ℕ → Refusal
refusal number k x = refusal_with number k x 0 0 0

-- with a transition and a label, and the steps of a growth and the zero that it ends at,
abbrev pub growth_refusal : ℕ → ℕ → ℕ → ℕ → ℕ → Refusal
growth_refusal number k x s z = refusal_with number k x s z 0

-- and with a product.
abbrev pub product_refusal : ℕ → ℕ → Refusal
product_refusal number j = refusal_with number 0 0 0 0 j

-- A check finds a refusal or nothing. This one refuses, with a bare number, where the test holds.
abbrev pub refuse_if : Bool → ℕ → Option Refusal
refuse_if b number = cond b (Some (refusal number 0 0)) None

-- 1: n is 0 or above 10.
abbrev pub inputs_check : ℕ → Option Refusal
inputs_check n = refuse_if (eqb n 0 || ltb 10 n) 1

-- 2: the table's length is not 2^n.
abbrev pub length_check : ℕ → List ℕ → Option Refusal
length_check n f = refuse_if (not (eqb (length f) (2 ^ n))) 2

-- 3: a table byte above 2; the lowest such point.
abbrev pub bytes_check : List ℕ → Option Refusal
bytes_check f = option_map (λ x. refusal 3 0 x) (first (λ x. ltb 2 (value f x)) 0 (length f))

-- 4: the list is odd, or above 64 transitions. An empty list is neither.
abbrev pub list_check : List ℕ → Option Refusal
list_check ts = refuse_if (eqb (length ts % 2) 1 || ltb 64 (count ts)) 4

-- 5: an end that is no point; the first such transition.
abbrev pub ends_check : ℕ → List ℕ → Option Refusal
ends_check n ts = option_map (λ k. refusal 5 k 0) (first (λ k. leb (2 ^ n) (start ts k) || leb (2 ^ n) (end ts k)) 0 (count ts))

-- 14: more inputs move than the limit; the first such transition.
abbrev pub bursts_check : ℕ → List ℕ → Option Refusal
bursts_check n ts = option_map (λ k. refusal 14 k 0) (first (λ k. ltb most_moving (distance n (start ts k) (end ts k))) 0 (count ts))

-- 6: a don't care in some [A,B]; the first such transition, the lowest point.
abbrev pub defined_check : ℕ → List ℕ → List ℕ → Option Refusal
defined_check n f ts = option_map (λ p. refusal 6 p.0 p.1) (first_place (λ k. undefined_at n f (start ts k) (end ts k)) 0 (count ts))

-- 7: the rule of the kind is broken; the first such transition, the lowest point.
abbrev pub rules_check : ℕ → List ℕ → List ℕ → Option Refusal
rules_check n f ts = option_map (λ p. refusal 7 p.0 p.1) (first_place (λ k. function_hazard_at n f (start ts k) (end ts k)) 0 (count ts))

-- 8: more required cubes than the limit. What the checks before it let through never has so many: this one never finds anything.
abbrev pub many_check : ℕ → List ℕ → List ℕ → Option Refusal
many_check n f ts = refuse_if (ltb most_required (length (required n f ts))) 8

-- The checks come in runs, between which a call can put its own: of the table,
abbrev pub table_checks : ℕ → List ℕ → List (Option Refusal)
table_checks n f = length_check n f ∷ bytes_check f ∷ []

-- of the list of transitions,
abbrev pub list_checks : ℕ → List ℕ → List (Option Refusal)
list_checks n ts = list_check ts ∷ ends_check n ts ∷ bursts_check n ts ∷ []

-- and of the table under the transitions.
abbrev pub points_checks : ℕ → List ℕ → List ℕ → List (Option Refusal)
points_checks n f ts = defined_check n f ts ∷ rules_check n f ts ∷ []

-- The input rules, in their order.
abbrev pub input_checks : ℕ → List ℕ → List ℕ → List (Option Refusal)
input_checks n f ts = (inputs_check n ∷ []) ++ (table_checks n f ++ (list_checks n ts ++ (points_checks n f ts ++ (many_check n f ts ∷ []))))

-- The input rules hold.
abbrev pub Accepted : ℕ → List ℕ → List ℕ → Type 0
Accepted n f ts = first_of (input_checks n f ts) ≡ None
