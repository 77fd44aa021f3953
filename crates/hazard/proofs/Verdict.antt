-- The verifier is right: it passes exactly the hazard-free networks.
use mathlib.Core.Path.{◌≡◌, refl, sym, subst, ◌∙◌, ap}
use mathlib.Core.Logic.{◌↔◌, ◌⊎◌, inl, inr}
use mathlib.Core.Bool.{not, ◌&&◌, ◌||◌}
use mathlib.Core.List.{List, Memᴰ}
use Rattle.std.specs.Prelude.{Option, None, Some, option_map}
use Rattle.std.proofs.lemmas.Option.{same_Some}
use Rattle.hazard.proofs.Options.{map-eq-none_iff}
use Prim.Native.Nat.{ℕ, zero, suc, ◌+◌, ◌*◌, ◌/◌, ◌%◌, ◌^◌, ◌≤◌, ◌<◌}
use native.Mathlib.Omega.{arith}
use lib.Dec.{T, T_not, eqb, ltb, eqb→eq, lt→ltb}
use lib.ListN.{length, drop}
use Rattle.hazard.specs.Limits.{most_products}
use Rattle.hazard.specs.Search.{first, find, first_of}
use Rattle.hazard.specs.Cube.{Cube, is_product, has}
use Rattle.hazard.specs.Transition.{off, count}
use Rattle.hazard.specs.Sets.{Required, Privileged, unvisited, required, privileged}
use Rattle.hazard.specs.Implicant.{illegal, lowest_zero}
use Rattle.hazard.specs.Cover.{Network, product_at, WellFormed, covered, HazardFreeCover}
use Rattle.hazard.specs.HazardFree.{HazardFree}
use Rattle.hazard.specs.Refusal.{Refusal, product_refusal, input_checks, Accepted}
use Rattle.hazard.specs.Verdict.{cut, products, products_check, digits_check, wires_check, own_checks, verifier_checks, Verdict, refused, passed, holds_zero, intersects, uncovered, fault_a, fault_c, fault_b, first_fault, fault, verdict, Verified, fields_of}
use Rattle.hazard.proofs.Test.{T_and, no_or, sure}
use Rattle.hazard.proofs.Rules.{lets}
use Rattle.hazard.proofs.Search.{none-some, first-none, none_first, find_none, place_none, first_of-none, entries, first_of-append, First, lowest, first-is, Find, hit, find-is, Earlier, Place, placed, place_is}
use Rattle.hazard.proofs.Network.{entry_at, at_places}
use Rattle.hazard.proofs.Sets.{labels_at, transition_e, point_e, required_cases, privileged_e}
use Rattle.hazard.proofs.Theorem.{cover_hazard_free}

-- How many products a network's bytes are cut into.
cut-length : (n count : ℕ) (bytes : List ℕ) → length (cut n count bytes) ≡ count
cut-length n zero bytes = refl
cut-length n (suc count) bytes = ap suc (cut-length n count (drop n bytes))

pub products-length : (n : ℕ) (bytes : List ℕ) → length (products n bytes) ≡ length bytes / n
products-length n bytes = cut-length n (length bytes / n) bytes

-- Conditions (a) and (c) of a product.
abbrev pub ConditionA : ℕ → List ℕ → Cube → Type 0
ConditionA n f p = (x : ℕ) → x < 2 ^ n → T (off f x) → ¬ T (has p x)

abbrev pub ConditionC : List Privileged → Cube → Type 0
ConditionC vs p = (v : Privileged) → Memᴰ v vs → ¬ T (illegal p v)

module _ (n : ℕ) (f ts : List ℕ) (net : Network) where
  -- Nothing found in each of the three searches is each of the three conditions.
  none-a : (fault_a n (off f) net ≡ None) ↔ ((p : Cube) → Memᴰ p net → ConditionA n f p)
  none-a = (
    λ e. at_places (ConditionA n f) net (λ j l x m z t. first-none (λ y. has (product_at net j) y && off f y) 0 (2 ^ n) (places.0 e j (omega arith) (omega arith)) x (omega arith) (omega arith) (simp T_and (t, z))),
    λ h. places.1 (λ j l m. none_first (λ y. has (product_at net j) y && off f y) 0 (2 ^ n) (λ x i k t.
        let r = simp T_and at t in h (product_at net j) (entry_at net j (omega arith)) x (omega arith) r.1 r.0)),
  )
    where
      places : (fault_a n (off f) net ≡ None) ↔ ((j : ℕ) → 0 ≤ j → j < 0 + length net → lowest_zero n (off f) (product_at net j) ≡ None)
      places = place_none (λ j. lowest_zero n (off f) (product_at net j)) 0 (length net)

  none-c : (fault_c (privileged n f ts) net ≡ None) ↔ ((p : Cube) → Memᴰ p net → ConditionC (privileged n f ts) p)
  none-c = (
    λ e. at_places (ConditionC (privileged n f ts)) net (λ j l. (find_none (illegal (product_at net j)) (privileged n f ts)).0 ((mapped j).0 (places.0 e j (omega arith) (omega arith)))),
    λ h. places.1 (λ j l m. (mapped j).1 ((find_none (illegal (product_at net j)) (privileged n f ts)).1 (h (product_at net j) (entry_at net j (omega arith))))),
  )
    where
      look : ℕ → Option ℕ
      look j = option_map (λ (v : Privileged). v.transition) (find (illegal (product_at net j)) (privileged n f ts))

      mapped : (j : ℕ) → (look j ≡ None) ↔ (find (illegal (product_at net j)) (privileged n f ts) ≡ None)
      mapped j = map-eq-none_iff (λ (v : Privileged). v.transition) (find (illegal (product_at net j)) (privileged n f ts))

      places : (fault_c (privileged n f ts) net ≡ None) ↔ ((j : ℕ) → 0 ≤ j → j < 0 + length net → look j ≡ None)
      places = place_none look 0 (length net)

  none-b : (fault_b (required n f ts) net ≡ None) ↔ ((r : Required) → Memᴰ r (required n f ts) → T (covered net r.cube))
  none-b =
      let s = find_none (λ (r : Required). not (covered net r.cube)) (required n f ts) in
      (λ e r m. sure (covered net r.cube) (s.0 e r m), λ h. s.1 (λ r m t. T_not (covered net r.cube) t (h r m)))

-- What each verdict names, and what was tried before it and found in order.
pub data Named (n : ℕ) (f ts : List ℕ) (net : Network) : Verdict → Type 0 where
  -- Nothing.
  none_named : HazardFreeCover n f ts net → Named n f ts net passed
  -- The lowest zero in the first product that has one.
  zero_named : {j x : ℕ} → j < length net → x < 2 ^ n → T (has (product_at net j) x) → T (off f x) → ((y : ℕ) → y < x → T (off f y) → ¬ T (has (product_at net j) y))
      → ((i : ℕ) → i < j → ConditionA n f (product_at net i)) → Named n f ts net (holds_zero j x)
  -- The first transition that the first such product meets illegally; (a) holds.
  illegal_named : {j : ℕ} {v : Privileged} → j < length net → (m : Memᴰ v (privileged n f ts)) → T (illegal (product_at net j) v) → Earlier (illegal (product_at net j)) m
      → ((i : ℕ) → i < j → ConditionC (privileged n f ts) (product_at net i)) → ((p : Cube) → Memᴰ p net → ConditionA n f p) → Named n f ts net (intersects j v.transition)
  -- The first required cube that no product contains; (a) and (c) hold.
  cube_named : {r : Required} → (m : Memᴰ r (required n f ts)) → ¬ T (covered net r.cube) → Earlier (λ q. not (covered net q.cube)) m
      → ((p : Cube) → Memᴰ p net → ConditionA n f p) → ((p : Cube) → Memᴰ p net → ConditionC (privileged n f ts) p) → Named n f ts net (uncovered r.transition r.label)

module _ (n : ℕ) (f ts : List ℕ) (net : Network) where
  -- The zero that a look into one product finds.
  zero_at : (j : ℕ) {x : ℕ} → lowest_zero n (off f) (product_at net j) ≡ Some x
      → (x < 2 ^ n) × T (has (product_at net j) x) × T (off f x) × ((y : ℕ) → y < x → T (off f y) → ¬ T (has (product_at net j) y))
  zero_at j {x} e = go (lowest_zero n (off f) (product_at net j)) e (first-is (λ y. has (product_at net j) y && off f y) 0 (2 ^ n))
    where
      go : (o : Option ℕ) → o ≡ Some x → First (λ y. has (product_at net j) y && off f y) 0 (2 ^ n) o
          → (x < 2 ^ n) × T (has (product_at net j) x) × T (off f x) × ((y : ℕ) → y < x → T (off f y) → ¬ T (has (product_at net j) y))
      go None e v = none-some e
      go (Some z) e (lowest t l m h) =
          let q : z ≡ x = same_Some z x e in
          let (i, o) = simp T_and at t in
          (omega arith, rw q at i, rw q at o, λ y k u w. h y (omega arith) (omega arith) (simp T_and (w, u)))

  -- The privileged cube that a look at one product finds.
  illegal_at : (j : ℕ) {k : ℕ} → option_map (λ (v : Privileged). v.transition) (find (illegal (product_at net j)) (privileged n f ts)) ≡ Some k
      → (v : Privileged) × (v.transition ≡ k) × (m : Memᴰ v (privileged n f ts)) × T (illegal (product_at net j) v) × Earlier (illegal (product_at net j)) m
  illegal_at j {k} = go (find (illegal (product_at net j)) (privileged n f ts)) (find-is (illegal (product_at net j)) (privileged n f ts))
    where
      go : (o : Option Privileged) → Find (illegal (product_at net j)) (privileged n f ts) o → option_map (λ (v : Privileged). v.transition) o ≡ Some k
          → (v : Privileged) × (v.transition ≡ k) × (m : Memᴰ v (privileged n f ts)) × T (illegal (product_at net j) v) × Earlier (illegal (product_at net j)) m
      go None w e = none-some e
      go (Some v) (hit m t h) e = (v, same_Some v.transition k e, m, t, h)

  pub fault_named : Named n f ts net (fault n f ts net)
  fault_named =
      stages (fault_a n (off f) net) refl (place_is look_a 0 (length net)) (fault_c (privileged n f ts) net) refl (place_is look_c 0 (length net)) (fault_b (required n f ts) net) refl
      (find-is (λ (r : Required). not (covered net r.cube)) (required n f ts))
    where
      look_a : ℕ → Option ℕ
      look_a j = lowest_zero n (off f) (product_at net j)

      look_c : ℕ → Option ℕ
      look_c j = option_map (λ (v : Privileged). v.transition) (find (illegal (product_at net j)) (privileged n f ts))

      stages : (a : Option (ℕ × ℕ)) → fault_a n (off f) net ≡ a → Place look_a 0 (length net) a → (c : Option (ℕ × ℕ)) → fault_c (privileged n f ts) net ≡ c → Place look_c 0 (length net) c
          → (b : Option Required) → fault_b (required n f ts) net ≡ b → Find (λ (r : Required). not (covered net r.cube)) (required n f ts) b
          → Named n f ts net (first_fault a c b)
      stages (Some p) ea (placed {k = j} l m e h) c ec pc b eb fb =
          let (i, t, o, w) = zero_at j e in
          zero_named {j = j} (omega arith) i t o w (λ i k x u z v. first-none (λ y. has (product_at net i) y && off f y) 0 (2 ^ n) (h i (omega arith) k) x (omega arith) (omega arith) (simp T_and (v, z)))
      stages None ea pa (Some p) ec (placed {k = j} l m e h) b eb fb =
          let (v, q, u, t, w) = illegal_at j e in
          subst (λ (z : ℕ). Named n f ts net (intersects j z)) q
          (illegal_named {j = j} (omega arith) u t w
          (λ i k. (find_none (illegal (product_at net i)) (privileged n f ts)).0 ((map-eq-none_iff (λ (z : Privileged). z.transition) (find (illegal (product_at net i)) (privileged n f ts))).0 (h i (omega arith) k)))
          ((none-a n f ts net).0 ea))
      stages None ea pa None ec pc (Some r) eb (hit m t h) = cube_named m (T_not (covered net r.cube) t) h ((none-a n f ts net).0 ea) ((none-c n f ts net).0 ec)
      stages None ea pa None ec pc None eb fb = none_named (record { a = (none-a n f ts net).0 ea; b = (none-b n f ts net).0 eb; c = (none-c n f ts net).0 ec })

  -- Verdict 3 names a transition of the list.
  pub intersects_names : (j k : ℕ) → fault n f ts net ≡ intersects j k → k < count ts
  intersects_names j k e = go (fault n f ts net) fault_named e
    where
      go : (v : Verdict) → Named n f ts net v → v ≡ intersects j k → k < count ts
      go passed w e = let z : ◌≡◌ {A = ℕ} 0 1 = cc in absurd (omega arith)
      go (holds_zero i y) w e = let z : ◌≡◌ {A = ℕ} 0 1 = cc in absurd (omega arith)
      go (uncovered i y) w e = let z : ◌≡◌ {A = ℕ} 0 1 = cc in absurd (omega arith)
      go (refused r) w e = elim w [ ]
      go (intersects i y) (illegal_named m t u w a c) e =
          let (h, l, d, g) = privileged_e n f ts t in
          omega (arith, ap (λ (v : Verdict). (fields_of v).transition) e, ap (λ (v : Privileged). v.transition) g)

  -- Verdict 4 names a transition of the list and one of its labels, or the number of transitions and a 1 that none of them visits.
  pub uncovered_names : (k x : ℕ) → fault n f ts net ≡ uncovered k x → ((k < count ts) × Memᴰ x (labels_at n f ts k)) ⊎ ((k ≡ count ts) × (x < 2 ^ n) × T (unvisited n f ts x))
  uncovered_names k x e = go (fault n f ts net) fault_named e
    where
      Names : ℕ → ℕ → Type 0
      Names k x = ((k < count ts) × Memᴰ x (labels_at n f ts k)) ⊎ ((k ≡ count ts) × (x < 2 ^ n) × T (unvisited n f ts x))

      of_cube : {r : Required} → Memᴰ r (required n f ts) → Names r.transition r.label
      of_cube m = elim (required_cases n f ts m) [
        | inl u ↦ let (j, y, l, h, e) = transition_e n f ts u in subst (λ (r : Required). Names r.transition r.label) e (inl (l, h))
        | inr u ↦ let (y, l, t, e) = point_e n f ts u in subst (λ (r : Required). Names r.transition r.label) e (inr (refl, l, t))
      ]

      go : (v : Verdict) → Named n f ts net v → v ≡ uncovered k x → Names k x
      go passed w e = let z : ◌≡◌ {A = ℕ} 0 1 = cc in absurd (omega arith)
      go (holds_zero i y) w e = let z : ◌≡◌ {A = ℕ} 0 1 = cc in absurd (omega arith)
      go (intersects i y) w e = let z : ◌≡◌ {A = ℕ} 0 1 = cc in absurd (omega arith)
      go (refused r) w e = elim w [ ]
      go (uncovered i y) (cube_named m t u a c) e = rw (sym (ap (λ (v : Verdict). (fields_of v).transition) e), sym (ap (λ (v : Verdict). (fields_of v).point) e)) (of_cube m)

  -- The verdict is `passed` exactly if the three conditions hold.
  pub fault-passed : (fault n f ts net ≡ passed) ↔ HazardFreeCover n f ts net
  fault-passed = (λ e. whole (subst (Named n f ts net) e fault_named), λ h. only (fault n f ts net) fault_named h)
    where
      whole : Named n f ts net passed → HazardFreeCover n f ts net
      whole (none_named h) = h

      only : (v : Verdict) → Named n f ts net v → HazardFreeCover n f ts net → v ≡ passed
      only passed w h = refl
      only (refused r) w h = elim w [ ]
      only (holds_zero j x) (zero_named l m t o u w) h = absurd (h.a (product_at net j) (entry_at net j l) x m o t)
      only (intersects j k) (illegal_named {v = v} l m t u w z) h = absurd (h.c (product_at net j) (entry_at net j l) v m t)
      only (uncovered k x) (cube_named {r = r} m t u w z) h = absurd (t (h.b r m))

  pub passed_hazard_free : Accepted n f ts → WellFormed n net → (fault n f ts net ≡ passed) ↔ HazardFree n f ts net
  passed_hazard_free accepted well =
      let t = cover_hazard_free n f ts net accepted well in
      (λ e. t.0 (fault-passed.0 e), λ h. fault-passed.1 (t.1 h))

-- The verdict is that of the searches exactly if the checks refuse nothing.
judged : (o : Option Refusal) (v : Verdict) → (◌≡◌ {A = Verdict} (elim o [ Some r ↦ refused r | None ↦ v ]) passed) ↔ ((o ≡ None) × (v ≡ passed))
judged None v = (λ e. (refl, e), λ e. e.1)
judged (Some r) v = (λ e. let z : ◌≡◌ {A = ℕ} 0 1 = cc in absurd (omega arith), λ e. none-some (sym e.0))

-- What check 11 says of what it lets through.
pub products_fit : (n : ℕ) (bytes : List ℕ) → products_check n bytes ≡ None → (length bytes % n ≡ 0) × (length bytes / n ≤ most_products)
products_fit n bytes e =
    let t = no_or (not (eqb (length bytes % n) 0)) (ltb most_products (length bytes / n)) (lets (not (eqb (length bytes % n) 0) || ltb most_products (length bytes / n)) 11 e) in
    let h : ¬ (most_products < length bytes / n) = λ l. t.1 (lt→ltb most_products (length bytes / n) l) in
    (eqb→eq (length bytes % n) 0 (sure (eqb (length bytes % n) 0) t.0), omega arith)

-- It has no more products than the limit.
pub products-few : (n : ℕ) (bytes : List ℕ) → products_check n bytes ≡ None → length (products n bytes) ≤ most_products
products-few n bytes e = omega (arith, products-length n bytes, (products_fit n bytes e).1)

-- Where check 12 finds nothing, each product is one.
pub digits_formed : (n : ℕ) (bytes : List ℕ) → digits_check n (products n bytes) ≡ None → WellFormed n (products n bytes)
digits_formed n bytes e = at_places (λ (p : Cube). T (is_product n p)) (products n bytes) (λ j l.
    sure (is_product n (product_at (products n bytes) j)) (first-none (λ i. not (is_product n (product_at (products n bytes) i))) 0 (length (products n bytes))
    ((map-eq-none_iff (λ i. product_refusal 12 i) (first (λ i. not (is_product n (product_at (products n bytes) i))) 0 (length (products n bytes)))).0 e) j (omega arith) (omega arith)))

-- What check 15 says of what it lets through.
pub wires-room : (n : ℕ) (bytes : List ℕ) (room : ℕ) → wires_check n bytes room ≡ None → 2 * n * (length bytes / n) ≤ room
wires-room n bytes room e =
    let h : ¬ (room < 2 * n * (length bytes / n)) = λ l. lets (ltb room (2 * n * (length bytes / n))) 15 e (lt→ltb room (2 * n * (length bytes / n)) l) in
    omega arith

module _ (n : ℕ) (f ts bytes : List ℕ) (room : ℕ) where
  -- The verifier's checks refuse nothing.
  abbrev pub Checked : Type 0
  Checked = first_of (verifier_checks n f ts bytes room) ≡ None

  -- What the verifier's checks let through is an accepted table, with a network.
  pub checked_accepted : Checked → Accepted n f ts
  checked_accepted e = ((first_of-append (input_checks n f ts) (own_checks n bytes room)).0 e).0

  pub checked_well_formed : Checked → WellFormed n (products n bytes)
  checked_well_formed e = digits_formed n bytes (first_of-none (own_checks n bytes room) ((first_of-append (input_checks n f ts) (own_checks n bytes room)).0 e).1 (search entries))

  -- The verdict is `passed` exactly if the checks refuse nothing and the network is hazard-free.
  pub verdict-passed : (verdict n f ts bytes room ≡ passed) ↔ (Checked × HazardFree n f ts (products n bytes))
  verdict-passed =
      let s = judged (first_of (verifier_checks n f ts bytes room)) (fault n f ts (products n bytes)) in
      (λ e. ((s.0 e).0, (right (s.0 e).0).0 (s.0 e).1), λ h. s.1 (h.0, (right h.0).1 h.1))
    where
      right : Checked → (fault n f ts (products n bytes) ≡ passed) ↔ HazardFree n f ts (products n bytes)
      right e = passed_hazard_free n f ts (products n bytes) (checked_accepted e) (checked_well_formed e)

  -- Of what the checks let through, exactly the hazard-free networks pass.
  pub checked_passed : Checked → (verdict n f ts bytes room ≡ passed) ↔ HazardFree n f ts (products n bytes)
  checked_passed e = (λ p. (verdict-passed.0 p).1, λ h. verdict-passed.1 (e, h))

  -- The whole promise, of the definition's verdict.
  pub verified : {v : Verdict} → v ≡ verdict n f ts bytes room → Verified n f ts bytes room v
  verified {v} e =
      record {
        is = e;
        fields = ap fields_of e;
        covers = λ h. let s = judged (first_of (verifier_checks n f ts bytes room)) (fault n f ts (products n bytes)) in
            let c = fault-passed n f ts (products n bytes) in (λ p. c.0 (s.0 (sym e ∙ p)).1, λ k. e ∙ s.1 (h, c.1 k));
        hazard_free = λ h. let c = checked_passed h in (λ p. c.0 (sym e ∙ p), λ k. e ∙ c.1 k);
      }
