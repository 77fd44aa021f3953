-- How large the fields of an answer can be.
use mathlib.Core.Path.{◌≡◌, refl, sym, ap, subst}
use mathlib.Core.Logic.{inl, inr}
use mathlib.Core.Bool.{Bool, true, false, not, ◌&&◌, ◌||◌}
use mathlib.Core.List.Memᴰ
use mathlib.Core.List.{List, [], ◌∷◌, ◌++◌, Memᴰ}
use Rattle.std.specs.Prelude.{Option, None, Some, option_map}
use Rattle.std.proofs.lemmas.Option.{same_Some}
use Rattle.hazard.proofs.Options.{map-eq-some_iff}
use Prim.Native.Nat.{ℕ, ◌/◌, ◌%◌, ◌^◌, ◌*◌, ◌≤◌, ◌<◌}
use native.Mathlib.Omega.{arith}
use lib.Dec.{eqb, leb, ltb}
use lib.ListN.{length}
use lib.Pow.{pow_mono}
use Rattle.hazard.specs.Limits.{most_moving, most_required, most_products}
use Rattle.hazard.specs.Search.{first, first_place, first_of}
use Rattle.hazard.specs.Cube.{has, span, distance, is_product}
use Rattle.hazard.specs.Transition.{value, off, start, end, count, Kind, low, rise, fall, high, kind, function_hazard}
use Rattle.hazard.specs.Sets.{Required, Privileged, labels, maximal_label, kind_at, required, privileged}
use Rattle.hazard.specs.Growth.{Growth, Legal, Blocked, steps, grow}
use Rattle.hazard.specs.Cover.{Network, product_at}
use Rattle.hazard.specs.Refusal.{Refusal, refusal, product_refusal, refuse_if, inputs_check, length_check, bytes_check, list_check, ends_check, bursts_check, defined_check, rules_check, many_check, input_checks, Accepted}
use Rattle.hazard.specs.Verdict.{products, products_check, digits_check, wires_check, own_checks, verifier_checks, Verdict, refused, fault, verdict, Fields, fields_of}
use Rattle.hazard.specs.Minimal.{blocked_by, block_check, room_check, blocking, minimiser_checks, Minimal}
use Rattle.hazard.proofs.Search.{none-some, first_some, place-some, those_e, first_of-none, entries, first_of-append, first_of-some}
use Rattle.hazard.proofs.Rules.{inputs-few, length_whole, list_few, few-inputs, list_length, points}
use Rattle.hazard.proofs.Few.{required-few}
use Rattle.hazard.proofs.Sets.{transition_e, point_e, required_cases, required-digits, privileged_e, privileged_wide}
use Rattle.hazard.proofs.Growth.{Ends, blocked, grow-steps, grow_ends}
use Rattle.hazard.proofs.Verdict.{products-few, Named, none_named, zero_named, illegal_named, cube_named, fault_named, checked_accepted}

-- The fields of a refusal; its product is below most.
pub record Bounded (most : ℕ) (q : Refusal) : Type 0 where
  pub number-low : 1 ≤ q.number
  pub number : q.number < 32
  pub transition : q.transition ≤ 64
  pub point : q.point < 1024
  pub steps : q.steps ≤ 10
  pub lowest : q.lowest < 1024
  pub product : q.product < most

-- The number and the fields of a verdict.
pub record BoundedFields (m : Fields) : Type 0 where
  pub number : m.number < 5
  pub refusal : m.refusal < 32
  pub product : m.product < most_products
  pub transition : m.transition ≤ 64
  pub point : m.point < 1024

-- What each check of a list finds has the property, where the checks before it find nothing.
data Each (P : Refusal → Type 0) : List (Option Refusal) → Type 0 where
  tried : Each P []
  next : {o : Option Refusal} {l : List (Option Refusal)} → ((q : Refusal) → o ≡ Some q → P q) → (o ≡ None → Each P l) → Each P (o ∷ l)

-- So has what is found first.
each_first : (P : Refusal → Type 0) {l : List (Option Refusal)} {q : Refusal} → Each P l → first_of l ≡ Some q → P q
each_first P tried e = none-some e
each_first P (next {o = None} h t) e = each_first P (t refl) e
each_first P {q = q} (next {o = Some p} h t) e = h q e

each_append : (P : Refusal → Type 0) {l m : List (Option Refusal)} → Each P l → (first_of l ≡ None → Each P m) → Each P (l ++ m)
each_append P tried u = u refl
each_append P (next {o = None} {l = l} h t) u = next h (λ e. each_append P (t refl) u)
each_append P (next {o = Some p} {l = l} h t) u = next h (λ e. none-some (sym e))

-- A label of a transition is a point.
label-point : (n : ℕ) (f : List ℕ) (k : Kind) (a b : ℕ) {x : ℕ} → b < 2 ^ n → Memᴰ x (labels n f k a b) → x < 2 ^ n
label-point n f low a b h m = absurd (Memᴰ.not-nil m)
label-point n f rise a b h m = omega (arith, (those_e (maximal_label n f b a) 0 (2 ^ n) m).1)
label-point n f fall a b h m = omega (arith, (those_e (maximal_label n f a b) 0 (2 ^ n) m).1)
label-point n f high a b h m = omega (arith, Memᴰ.eq_of_singleton m)

-- There are at most 1,024 points.
points_few : {n : ℕ} → n ≤ 10 → 2 ^ n ≤ 1024
points_few h = pow_mono {j = 10} h

module _ (n : ℕ) (f ts : List ℕ) (accepted : Accepted n f ts) where
  -- A required cube names one of the transitions, or their number, and a point.
  pub required_bounds : (r : Required) → Memᴰ r (required n f ts) → (r.transition ≤ count ts) × (r.label < 2 ^ n)
  required_bounds r m = elim (required_cases n f ts m) [
    | inl u ↦ let (k, x, l, h, e) = transition_e n f ts u in
        let b = label-point n f (kind_at f ts k) (start ts k) (end ts k) (points n f ts accepted k l).1 h in
        (omega (arith, transition_of e), omega (arith, label_of e))
    | inr u ↦ let (x, l, t, e) = point_e n f ts u in (omega (arith, transition_of e), omega (arith, label_of e))
  ]
    where
      transition_of : {q r : Required} → q ≡ r → q.transition ≡ r.transition
      transition_of e = ap (λ (q : Required). q.transition) e

      label_of : {q r : Required} → q ≡ r → q.label ≡ r.label
      label_of e = ap (λ (q : Required). q.label) e

  pub privileged_bounds : (v : Privileged) → Memᴰ v (privileged n f ts) → v.transition < count ts
  privileged_bounds v m =
      let (k, l, h, e) = privileged_e n f ts m in
      let t : k ≡ v.transition = ap (λ (q : Privileged). q.transition) e in omega arith

  blocked_bounds : (q : Refusal) → blocking n f ts ≡ Some q → Bounded 1 q
  blocked_bounds q e =
      let (r, m, h) = first_of-some (block_check n (off f) (privileged n f ts)) (required n f ts) e in
      let w = required-digits n f ts r m in
      let vs = privileged_wide n f ts in
      go r (required_bounds r m) (grow n (off f) (privileged n f ts) r.cube) (grow-steps n (off f) (privileged n f ts) vs w) (grow_ends n (off f) (privileged n f ts) vs w) h
    where
      go : (r : Required) → (r.transition ≤ count ts) × (r.label < 2 ^ n) → (g : Growth) → steps g ≤ n → Ends n (off f) (privileged n f ts) r.cube g → blocked_by r g ≡ Some q → Bounded 1 q
      go r b (Legal c s) l u h = none-some h
      go r b (Blocked z s) l (blocked i k z< d o) h =
          let few = (few-inputs n f ts accepted).1 in
          let all = points_few few in
          let ends = (list_length n f ts accepted).1 in
          subst (Bounded 1) (same_Some _ _ h)
          (record { number-low = omega arith; number = omega arith; transition = omega (arith, b.0); point = omega (arith, b.1); steps = omega arith; lowest = omega arith; product = omega arith })

  -- A minimal network has no more products than there can be required cubes.
  pub minimal_few : {net : Network} → Minimal n f ts net → length net ≤ most_required
  minimal_few m = omega (arith, m.few, required-few n f ts accepted)

-- For each way to make a check: the refusal that it gives,
named : {most k t x : ℕ} → 1 ≤ most → 1 ≤ k → k < 32 → t ≤ 64 → x < 1024 → Bounded most (refusal k t x)
named p a b c d = record { number-low = a; number = b; transition = c; point = d; steps = omega arith; lowest = omega arith; product = p }

-- by a test,
test_bounds : {most : ℕ} → 1 ≤ most → (b : Bool) (k : ℕ) → 1 ≤ k → k < 32 → (q : Refusal) → refuse_if b k ≡ Some q → Bounded most q
test_bounds {most} p true k l m q e = subst (Bounded most) (same_Some _ _ e) (named p l m (omega arith) (omega arith))
test_bounds p false k l m q e = none-some e

-- by a search,
search_bounds : {A : Type 0} {most : ℕ} (g : A → Refusal) (o : Option A) → ((a : A) → o ≡ Some a → Bounded most (g a)) → (q : Refusal) → option_map g o ≡ Some q → Bounded most q
search_bounds {A} {most} g o h q e = let (a, s, i) = (map-eq-some_iff g o).0 e in subst (Bounded most) i (h a s)

-- by a search for a transition and a point of it.
place_bounds : {most size all : ℕ} → 1 ≤ most → size ≤ 64 → all ≤ 1024 → (k : ℕ) → 1 ≤ k → k < 32 → (test : ℕ → ℕ → Bool) (q : Refusal)
    → option_map (λ (p : ℕ × ℕ). refusal k p.0 p.1) (first_place (λ t. first (test t) 0 all) 0 size) ≡ Some q → Bounded most q
place_bounds {most} {size} {all} p few small k a b test =
    search_bounds (λ (p : ℕ × ℕ). refusal k p.0 p.1) (first_place (λ t. first (test t) 0 all) 0 size) (λ i s.
    let (l, m, h) = place-some (λ t. first (test t) 0 all) 0 size s in
    named p a b (omega arith) (omega (arith, (first_some (test i.0) 0 all h).1)))

-- What a check finds is bounded: a law for each check, by its name.
abbrev Finds : ℕ → Option Refusal → Type 0
Finds most o = (q : Refusal) → o ≡ Some q → Bounded most q

module _ {most : ℕ} (p : 1 ≤ most) (n : ℕ) where
  inputs_bounds : Finds most (inputs_check n)
  inputs_bounds = test_bounds p (eqb n 0 || ltb 10 n) 1 (omega arith) (omega arith)

  length_bounds : (f : List ℕ) → Finds most (length_check n f)
  length_bounds f = test_bounds p (not (eqb (length f) (2 ^ n))) 2 (omega arith) (omega arith)

  bytes_bounds : (f : List ℕ) → length f ≤ 1024 → Finds most (bytes_check f)
  bytes_bounds f all = search_bounds (λ x. refusal 3 0 x) (first (λ x. ltb 2 (value f x)) 0 (length f)) (λ x s.
      named p (omega arith) (omega arith) (omega arith) (omega (arith, (first_some (λ x. ltb 2 (value f x)) 0 (length f) s).1)))

  list_bounds : (ts : List ℕ) → Finds most (list_check ts)
  list_bounds ts = test_bounds p (eqb (length ts % 2) 1 || ltb 64 (count ts)) 4 (omega arith) (omega arith)

  ends_bounds : (ts : List ℕ) → count ts ≤ 64 → Finds most (ends_check n ts)
  ends_bounds ts few = search_bounds (λ k. refusal 5 k 0) (first (λ k. leb (2 ^ n) (start ts k) || leb (2 ^ n) (end ts k)) 0 (count ts)) (λ k s.
      named p (omega arith) (omega arith) (omega (arith, (first_some (λ k. leb (2 ^ n) (start ts k) || leb (2 ^ n) (end ts k)) 0 (count ts) s).1)) (omega arith))

  bursts_bounds : (ts : List ℕ) → count ts ≤ 64 → Finds most (bursts_check n ts)
  bursts_bounds ts few = search_bounds _ (first (λ k. ltb most_moving (distance n (start ts k) (end ts k))) 0 (count ts)) (λ k s.
      named p (omega arith) (omega arith) (omega (arith, (first_some (λ k. ltb most_moving (distance n (start ts k) (end ts k))) 0 (count ts) s).1)) (omega arith))

  defined_bounds : (f ts : List ℕ) → n ≤ 10 → count ts ≤ 64 → Finds most (defined_check n f ts)
  defined_bounds f ts small few = place_bounds p few (points_few small) 6 (omega arith) (omega arith) (λ k x. has (span n (start ts k) (end ts k)) x && eqb (value f x) 2)

  rules_bounds : (f ts : List ℕ) → n ≤ 10 → count ts ≤ 64 → Finds most (rules_check n f ts)
  rules_bounds f ts small few = place_bounds p few (points_few small) 7 (omega arith) (omega arith) (λ k x. has (span n (start ts k) (end ts k)) x && function_hazard n f (kind f (start ts k) (end ts k)) (start ts k) (end ts k) x)

  many_bounds : (f ts : List ℕ) → Finds most (many_check n f ts)
  many_bounds f ts = test_bounds p (ltb most_required (length (required n f ts))) 8 (omega arith) (omega arith)

  room_bounds : (f ts : List ℕ) (room : ℕ) → Finds most (room_check n f ts room)
  room_bounds f ts room = test_bounds p (ltb room (n * length (required n f ts))) 9 (omega arith) (omega arith)

  products_bounds : (bytes : List ℕ) → Finds most (products_check n bytes)
  products_bounds bytes = test_bounds p (not (eqb (length bytes % n) 0) || ltb most_products (length bytes / n)) 11 (omega arith) (omega arith)

  wires_bounds : (bytes : List ℕ) (room : ℕ) → Finds most (wires_check n bytes room)
  wires_bounds bytes room = test_bounds p (ltb room (2 * n * (length bytes / n))) 15 (omega arith) (omega arith)

digits_bounds : (n : ℕ) (net : Network) → length net ≤ most_products → Finds most_products (digits_check n net)
digits_bounds n net few = search_bounds (λ j. product_refusal 12 j) (first (λ j. not (is_product n (product_at net j))) 0 (length net)) (λ j s.
    let b : j < most_products = omega (arith, (first_some (λ j. not (is_product n (product_at net j))) 0 (length net) s).1) in
    record { number-low = omega arith; number = omega arith; transition = omega arith; point = omega arith; steps = omega arith; lowest = omega arith; product = b })

module _ (n : ℕ) (f ts : List ℕ) where
  -- The input rules, each where those before it find nothing.
  input_bounds : {most : ℕ} → 1 ≤ most → Each (Bounded most) (input_checks n f ts)
  input_bounds p =
      next (inputs_bounds p n) (λ c1.
      let small = (inputs-few n c1).1 in
      next (length_bounds p n f) (λ c2.
      next (bytes_bounds p n f (omega (arith, length_whole n f c2, points_few small))) (λ c3.
      next (list_bounds p n ts) (λ c4.
      let few = (list_few ts c4).1 in
      next (ends_bounds p n ts few) (λ c5.
      next (bursts_bounds p n ts few) (λ c14.
      next (defined_bounds p n f ts small few) (λ c6.
      next (rules_bounds p n f ts small few) (λ c7.
      next (many_bounds p n f ts) (λ c8. tried)))))))))

  -- A refusal of the minimiser.
  pub minimiser_bounds : (room : ℕ) {q : Refusal} → first_of (minimiser_checks n f ts room) ≡ Some q → Bounded 1 q
  minimiser_bounds room e =
      each_first (Bounded 1)
      (each_append (Bounded 1) (input_bounds (omega arith)) (λ a.
      next (room_bounds (omega arith) n f ts room) (λ c9. next (blocked_bounds n f ts a) (λ c10. tried)))) e

  module _ (bytes : List ℕ) where
    -- A refusal of the verifier.
    pub verifier_bounds : (room : ℕ) {q : Refusal} → first_of (verifier_checks n f ts bytes room) ≡ Some q → Bounded most_products q
    verifier_bounds room e =
        each_first (Bounded most_products)
        (each_append (Bounded most_products) (input_bounds (omega arith)) (λ a.
        next (products_bounds (omega arith) n bytes) (λ c11. next (digits_bounds n (products n bytes) (products-few n bytes c11)) (λ c12. next (wires_bounds (omega arith) n bytes room) (λ c15. tried))))) e

    -- Every verdict, of refused input too.
    pub verdict_bounds : (room : ℕ) → BoundedFields (fields_of (verdict n f ts bytes room))
    verdict_bounds room = go (first_of (verifier_checks n f ts bytes room)) refl
      where
        small : {number product transition point : ℕ} → number < 5 → product < most_products → transition ≤ 64 → point < 1024
            → BoundedFields (record { number = number; refusal = 0; product = product; transition = transition; point = point })
        small a b c d = record { number = a; refusal = omega arith; product = b; transition = c; point = d }

        judged : Accepted n f ts → length (products n bytes) ≤ most_products → {v : Verdict} → Named n f ts (products n bytes) v → BoundedFields (fields_of v)
        judged a l (none_named h) = small (omega arith) (omega arith) (omega arith) (omega arith)
        judged a l (zero_named i x t o h k) = small (omega arith) (omega arith) (omega arith) (omega (arith, points_few (few-inputs n f ts a).1))
        judged a l (illegal_named {v = v} i m t h k w) = small (omega arith) (omega arith) (omega (arith, privileged_bounds n f ts a v m, (list_length n f ts a).1)) (omega arith)
        judged a l (cube_named {r = r} m t h k w) =
            let (b, c) = required_bounds n f ts a r m in
            small (omega arith) (omega arith) (omega (arith, (list_length n f ts a).1)) (omega (arith, points_few (few-inputs n f ts a).1))

        go : (o : Option Refusal) → first_of (verifier_checks n f ts bytes room) ≡ o → BoundedFields (fields_of (elim o [ Some q ↦ refused q | None ↦ fault n f ts (products n bytes) ]))
        go (Some q) e = let b = verifier_bounds room e in record { number = omega arith; refusal = b.number; product = b.product; transition = b.transition; point = b.point }
        go None e =
            let rest = ((first_of-append (input_checks n f ts) (own_checks n bytes room)).0 e).1 in
            judged (checked_accepted n f ts bytes room e) (products-few n bytes (first_of-none (own_checks n bytes room) rest (search entries))) (fault_named n f ts (products n bytes))
