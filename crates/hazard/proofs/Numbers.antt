-- What a check finds has that check's number.
use mathlib.Core.Path.{◌≡◌, refl, sym, ap, subst, ◌∙◌}
use mathlib.Core.Logic.{◌≢◌}
use mathlib.Core.Bool.{Bool, true, false, not, ◌||◌}
use mathlib.Core.List.{List, [], ◌∷◌, ◌++◌}
use Rattle.std.specs.Prelude.{Option, None, Some, option_map}
use Rattle.std.proofs.lemmas.Option.{same_Some}
use Prim.Native.Nat.{ℕ, ◌/◌, ◌%◌, ◌^◌, ◌*◌}
use lib.Dec.{T, eqb, leb, ltb}
use lib.ListN.{length}
use Rattle.hazard.specs.Limits.{most_moving, most_required, most_products}
use Rattle.hazard.specs.Search.{first, first_place, first_of}
use Rattle.hazard.specs.Cube.{distance, is_product}
use Rattle.hazard.specs.Transition.{value, off, start, end, count, function_hazard_at, undefined_at}
use Rattle.hazard.specs.Sets.{Required, required, privileged}
use Rattle.hazard.specs.Growth.{Growth, Legal, Blocked, grow}
use Rattle.hazard.specs.Cover.{Network, product_at}
use Rattle.hazard.specs.Refusal.{Refusal, refusal, product_refusal, refuse_if, inputs_check, length_check, bytes_check, list_check, ends_check, bursts_check, defined_check, rules_check, many_check, input_checks}
use Rattle.hazard.specs.Verdict.{products, products_check, digits_check, wires_check, verifier_checks}
use Rattle.hazard.specs.Minimal.{blocked_by, block_check, room_check, blocking, minimiser_checks}
use Rattle.hazard.proofs.Test.{or_l, or_r, eqb_of}
use Rattle.hazard.proofs.Search.{none-some, first_of-left, first_of-right, first_of-some, first_of-one, first_of_as}
use Rattle.hazard.proofs.Few.{rule_checks, many_never}

-- What the check finds has the number k.
abbrev pub Numbered : ℕ → Option Refusal → Type 0
Numbered k o = (q : Refusal) → o ≡ Some q → q.number ≡ k

-- So it is for each way to make a check: a test,
pub test_number : (b : Bool) (k : ℕ) → Numbered k (refuse_if b k)
test_number true k q e = sym (ap (λ (r : Refusal). r.number) (same_Some _ _ e))
test_number false k q e = none-some e

-- a search, whose find is named in a refusal,
pub search_number : {A : Type 0} {k : ℕ} (g : A → Refusal) → ((a : A) → (g a).number ≡ k) → (o : Option A) → Numbered k (option_map g o)
search_number g h None q e = none-some e
search_number g h (Some a) q e = sym (ap (λ (r : Refusal). r.number) (same_Some _ _ e)) ∙ h a

-- and the growth of the required cubes.
pub block_number : (n : ℕ) (f ts : List ℕ) → Numbered 10 (blocking n f ts)
block_number n f ts q e = let (r, m, h) = first_of-some (block_check n (off f) (privileged n f ts)) (required n f ts) e in go r (grow n (off f) (privileged n f ts) r.cube) h
  where
    go : (r : Required) (g : Growth) → blocked_by r g ≡ Some q → q.number ≡ 10
    go r (Legal c s) h = none-some h
    go r (Blocked z s) h = sym (ap (λ (x : Refusal). x.number) (same_Some _ _ h))

-- The checks, by their names.
module _ (n : ℕ) where
  pub inputs-number : Numbered 1 (inputs_check n)
  inputs-number = test_number (eqb n 0 || ltb 10 n) 1

  pub length-number : (f : List ℕ) → Numbered 2 (length_check n f)
  length-number f = test_number (not (eqb (length f) (2 ^ n))) 2

  pub bytes-number : (f : List ℕ) → Numbered 3 (bytes_check f)
  bytes-number f = search_number (λ x. refusal 3 0 x) (λ x. refl) (first (λ x. ltb 2 (value f x)) 0 (length f))

  pub list_number : (ts : List ℕ) → Numbered 4 (list_check ts)
  list_number ts = test_number (eqb (length ts % 2) 1 || ltb 64 (count ts)) 4

  pub ends_number : (ts : List ℕ) → Numbered 5 (ends_check n ts)
  ends_number ts = search_number (λ k. refusal 5 k 0) (λ k. refl) (first (λ k. leb (2 ^ n) (start ts k) || leb (2 ^ n) (end ts k)) 0 (count ts))

  pub bursts_number : (ts : List ℕ) → Numbered 14 (bursts_check n ts)
  bursts_number ts = search_number _ (λ k. refl) (first (λ k. ltb most_moving (distance n (start ts k) (end ts k))) 0 (count ts))

  pub defined_number : (f ts : List ℕ) → Numbered 6 (defined_check n f ts)
  defined_number f ts = search_number (λ p. refusal 6 p.0 p.1) (λ p. refl) (first_place (λ k. undefined_at n f (start ts k) (end ts k)) 0 (count ts))

  pub rules_number : (f ts : List ℕ) → Numbered 7 (rules_check n f ts)
  rules_number f ts = search_number (λ p. refusal 7 p.0 p.1) (λ p. refl) (first_place (λ k. function_hazard_at n f (start ts k) (end ts k)) 0 (count ts))

  pub many-number : (f ts : List ℕ) → Numbered 8 (many_check n f ts)
  many-number f ts = test_number (ltb most_required (length (required n f ts))) 8

  pub room-number : (f ts : List ℕ) (room : ℕ) → Numbered 9 (room_check n f ts room)
  room-number f ts room = test_number (ltb room (n * length (required n f ts))) 9

  pub products-number : (bytes : List ℕ) → Numbered 11 (products_check n bytes)
  products-number bytes = test_number (not (eqb (length bytes % n) 0) || ltb most_products (length bytes / n)) 11

  pub digits_number : (net : Network) → Numbered 12 (digits_check n net)
  digits_number net = search_number (λ j. product_refusal 12 j) (λ j. refl) (first (λ j. not (is_product n (product_at net j))) 0 (length net))

  pub wires-number : (bytes : List ℕ) (room : ℕ) → Numbered 15 (wires_check n bytes room)
  wires-number bytes room = test_number (ltb room (2 * n * (length bytes / n))) 15

-- The numbers of a list of checks, one for each, in their order.
pub data Numbers : List ℕ → List (Option Refusal) → Type 0 where
  no_more : Numbers [] []
  next : {k : ℕ} {ks : List ℕ} {o : Option Refusal} {l : List (Option Refusal)} → Numbered k o → Numbers ks l → Numbers (k ∷ ks) (o ∷ l)

pub numbers-append : {ks js : List ℕ} {l m : List (Option Refusal)} → Numbers ks l → Numbers js m → Numbers (ks ++ js) (l ++ m)
numbers-append no_more t = t
numbers-append (next h s) t = next h (numbers-append s t)

-- The number is one of the list.
abbrev pub listed : ℕ → List ℕ → Bool
listed k [] = false
listed k (j ∷ ks) = eqb k j || listed k ks

-- What is found has one of the numbers.
pub number-listed : {ks : List ℕ} {l : List (Option Refusal)} {q : Refusal} → Numbers ks l → first_of l ≡ Some q → T (listed q.number ks)
number-listed no_more e = none-some e
number-listed {q = q} (next {k = k} {ks = ks} {o = None} h s) e = or_r (eqb q.number k) (listed q.number ks) (number-listed s e)
number-listed {q = q} (next {k = k} {ks = ks} {o = Some p} h s) e = or_l (eqb q.number k) (listed q.number ks) (eqb_of (h q e))

-- What has none of the numbers of the first checks was found by the later ones, and the first found nothing.
pub later-found : {ks : List ℕ} {l : List (Option Refusal)} (m : List (Option Refusal)) {q : Refusal} → Numbers ks l → ¬ T (listed q.number ks) → first_of (l ++ m) ≡ Some q → (first_of l ≡ None) × (first_of m ≡ Some q)
later-found {ks} {l} m {q} s t e = go (first_of l) refl
  where
    go : (o : Option Refusal) → first_of l ≡ o → (first_of l ≡ None) × (first_of m ≡ Some q)
    go None h = (h, sym (first_of-right l m h) ∙ e)
    go (Some p) h = absurd (t (number-listed s (h ∙ sym (first_of-left l m h) ∙ e)))

module _ (n : ℕ) (f ts : List ℕ) where
  -- The input rules have numbers, which compute to a list: those before check 8,
  abbrev pub rule_numbers : (ks : List ℕ) × Numbers ks (rule_checks n f ts)
  rule_numbers = (
    _,
    next (inputs-number n)
        (next (length-number n f) (next (bytes-number n f)
        (next (list_number n ts) (next (ends_number n ts) (next (bursts_number n ts)
        (next (defined_number n f ts) (next (rules_number n f ts) no_more))))))),
  )

  -- all of them,
  abbrev pub input-numbers : (ks : List ℕ) × Numbers ks (input_checks n f ts)
  input-numbers = (_, numbers-append rule_numbers.1 (next (many-number n f ts) no_more))

  -- and so have the checks before blocking,
  abbrev pub room-numbers : (room : ℕ) → (ks : List ℕ) × Numbers ks (input_checks n f ts ++ (room_check n f ts room ∷ []))
  room-numbers room = (_, numbers-append input-numbers.1 (next (room-number n f ts room) no_more))

  -- the minimiser's, and the verifier's.
  abbrev pub minimiser_numbers : (room : ℕ) → (ks : List ℕ) × Numbers ks (minimiser_checks n f ts room)
  minimiser_numbers room = (_, numbers-append (room-numbers room).1 (next (block_number n f ts) no_more))

  abbrev pub verifier_numbers : (bytes : List ℕ) (room : ℕ) → (ks : List ℕ) × Numbers ks (verifier_checks n f ts bytes room)
  verifier_numbers bytes room = (_, numbers-append input-numbers.1 (next (products-number n bytes) (next (digits_number n (products n bytes)) (next (wires-number n bytes room) no_more))))

  -- Refusal 10 comes from blocking alone: the checks before it find nothing.
  pub ten_blocks : (room : ℕ) {q : Refusal} → first_of (minimiser_checks n f ts room) ≡ Some q → q.number ≡ 10
      → (first_of (input_checks n f ts ++ (room_check n f ts room ∷ [])) ≡ None) × (blocking n f ts ≡ Some q)
  ten_blocks room {q} e h =
      let (a, b) = later-found (blocking n f ts ∷ []) (room-numbers room).1 (λ t. subst (λ (k : ℕ). T (listed k (room-numbers room).0)) h t) e in
      (a, sym (first_of-one (blocking n f ts)) ∙ b)

  -- Refusal 8 never comes, whatever checks with other numbers follow the input rules.
  pub never_eight : {ks : List ℕ} {later : List (Option Refusal)} {q : Refusal} → Numbers ks later → ¬ T (listed 8 ks) → first_of (input_checks n f ts ++ later) ≡ Some q → q.number ≢ 8
  never_eight {ks} {later} s t e h =
      t (subst (λ (k : ℕ). T (listed k (rule_numbers.0 ++ ks))) h
      (number-listed (numbers-append rule_numbers.1 s) (sym (first_of_as (input_checks n f ts) (rule_checks n f ts) later (many_never n f ts)) ∙ e)))
