-- The run that is written for a verdict shows it, and fits the buffer.
use mathlib.Core.Path.{◌≡◌, refl, sym, ap, ◌∙◌, subst, subst⁻¹}
use mathlib.Core.Logic.{inl, inr}
use mathlib.Core.Bool.{Bool, true, false, cond, ◌&&◌, true≢false}
use mathlib.Core.List.Memᴰ
use mathlib.Core.List.{List, [], ◌++◌, Memᴰ}
use Rattle.std.specs.Prelude.{Option, None, Some}
use Prim.Native.Nat.{ℕ, ◌*◌, ◌^◌, ◌≤◌, ◌<◌}
use native.Mathlib.Nat.{mul-le-mul}
use native.Mathlib.Omega.{arith}
use lib.Dec.{T, ltb, lt→ltb, ltb→lt}
use lib.ListN.{length, drop}
use Rattle.hazard.specs.Limits.{most_wires}
use Rattle.hazard.specs.Search.{those, first_of}
use Rattle.hazard.specs.Cube.{Cube, has, span}
use Rattle.hazard.specs.Transition.{value, off, start, end, count, Kind, low, rise, fall, high}
use Rattle.hazard.specs.Sets.{Required, Privileged, maximal_label, labels, start_point, dynamic, kind_at, start_at, unvisited, required, privileged}
use Rattle.hazard.specs.Implicant.{illegal}
use Rattle.hazard.specs.Cover.{Network, product_at, WellFormed, gives, covered}
use Rattle.hazard.specs.Run.{Wire, outputs, Allowed}
use Rattle.hazard.specs.Refusal.{Refusal, input_checks, Accepted}
use Rattle.hazard.specs.Verdict.{products, products_check, own_checks, verifier_checks, Verdict, refused, passed, holds_zero, intersects, uncovered, fault_a, fault, verdict, Verified}
use Rattle.hazard.specs.Classical.{function_checks, missed}
use Rattle.hazard.specs.Shown.{is_high, stays_high, Hazard, AtRest, EvidenceB, Evidence, numbers, Shown}
use Rattle.hazard.specs.Pulse.{pulse, run_for}
use Rattle.hazard.proofs.Test.{tests, is, isnt}
use Rattle.hazard.proofs.Search.{those_e, first_of-none, entries, first_of-append}
use Rattle.hazard.proofs.Cube.{has→, →has, span-digits}
use Rattle.hazard.proofs.Point.{span_swap}
use Rattle.hazard.proofs.Implicant.{illegal→}
use Rattle.hazard.proofs.Rules.{RulesAt, rules_at, few-inputs}
use Rattle.hazard.proofs.Network.{entry_at, Products, well_formed→, covered_joint}
use Rattle.hazard.proofs.Sets.{privileged_at, transition_e, point_e, required_cases, privileged_i, privileged_e}
use Rattle.hazard.proofs.Wire.{run_length}
use Rattle.hazard.proofs.Label.{label-one}
use Rattle.hazard.proofs.Transition.{Anchored}
use Rattle.hazard.proofs.Covers.{gives-zeros, legal→}
use Rattle.hazard.proofs.Verdict.{products-few, ConditionA, ConditionC, Named, none_named, zero_named, illegal_named, cube_named, fault_named, checked_accepted, checked_well_formed}
use Rattle.hazard.proofs.Pulse.{pulse_run, wires-length, pulse-few, high-pulse, fall_pulse, rise_pulse}
use Rattle.hazard.proofs.Classical.{verified_classical}
use Rattle.hazard.proofs.Rest.{zero_at_rest, one_at_rest, point_at_rest}

-- One transition, from a to b.
module _ (n : ℕ) (f : List ℕ) (a b : ℕ) (net : Network) (good : Products n net) where
  -- Verdict 3: a product has a point of [A,B] and lacks the start point.
  pub intersects-pulse : (k : Kind) → T (dynamic k) → RulesAt n f a b k → ((x : ℕ) → x < 2 ^ n → value f x ≡ 0 → gives net x ≡ false)
      → (j : ℕ) → j < length net → (x : ℕ) → T (has (product_at net j) x) → T (has (span n a b) x) → ¬ T (has (product_at net j) (start_point k a b))
      → ¬ Allowed k (outputs a b net [] (pulse k j a b net))
  intersects-pulse low d r zeros j l x t u lacks = absurd d
  intersects-pulse rise d r zeros j l x t u lacks = rise_pulse n a b net good j l x t u lacks (zeros a r.start-lt r.ends.0)
  intersects-pulse fall d r zeros j l x t u lacks = fall_pulse n a b net good j l x t u lacks (zeros b r.end_lt r.ends.1)
  intersects-pulse high d r zeros j l x t u lacks = absurd d

  -- Verdict 4, by whether the kind is 1 to 1.
  abbrev Uncovered : Kind → ℕ → Bool → Type 0
  Uncovered k x true = ¬ Allowed k (outputs a b net [] (pulse high 0 a b net))
  Uncovered k x false = AtRest f net x 1

  label_at_rest : (s e : ℕ) → ((x : ℕ) → T (has (span n s e) x) → T (has (span n a b) x)) → Anchored n a b net s
      → (x : ℕ) → Memᴰ x (those (maximal_label n f s e) 0 (2 ^ n)) → ¬ T (covered net (span n s x)) → AtRest f net x 1
  label_at_rest s e to c x m u =
      let t = label-one n f s e x (those_e (maximal_label n f s e) 0 (2 ^ n) m).2 in
      one_at_rest n f net good s x (λ j l h. c j l x h (to x t.0)) u t.1

  uncovered_at : (k : Kind) → (T (dynamic k) → Anchored n a b net (start_point k a b)) → (x : ℕ) → Memᴰ x (labels n f k a b)
      → ¬ T (covered net (span n (start_point k a b) x)) → Uncovered k x (is_high k)
  uncovered_at low c x m u = absurd (Memᴰ.not-nil m)
  uncovered_at rise c x m u = label_at_rest b a (span_swap n b a) (c tt) x m u
  uncovered_at fall c x m u = label_at_rest a b (λ y t. t) (c tt) x m u
  uncovered_at high c x m u = high-pulse 0 a b net (λ j. u (rw (Memᴰ.eq_of_singleton m) ((covered_joint n net good a b).1 j)))

module _ (n : ℕ) (f ts : List ℕ) (net : Network) (accepted : Accepted n f ts) (well : WellFormed n net) where
  good : Products n net
  good = well_formed→ well

  -- The run for a verdict shows it.
  abbrev Right : Verdict → Type 0
  Right v = Evidence f ts net v (run_for f ts net v)

  right-intersects : (j : ℕ) (v : Privileged) → j < length net → Memᴰ v (privileged n f ts) → T (illegal (product_at net j) v)
      → ((p : Cube) → Memᴰ p net → ConditionA n f p) → Right (intersects j v.transition)
  right-intersects j v l m t a =
      let (k, h, d, e) = privileged_e n f ts m in
      subst (λ (w : Privileged). T (illegal (product_at net j) w) → Right (intersects j w.transition)) e (λ u. at' k h d u) t
    where
      at' : (k : ℕ) → k < count ts → T (dynamic (kind_at f ts k)) → T (illegal (product_at net j) (privileged_at n f ts k)) → Right (intersects j k)
      at' k h d u =
          let i = illegal→ {v = privileged_at n f ts k} (good j l) (span-digits n (start ts k) (end ts k)) u in
          record {
            whole = pulse_run (kind_at f ts k) j (start ts k) (end ts k) net;
            not_allowed = intersects-pulse n f (start ts k) (end ts k) net good (kind_at f ts k) d (rules_at n f ts accepted k h) (gives-zeros n f net a) j l i.shared
                (→has i.mine) (→has i.its) (λ s. i.lacks (has→ (product_at net j) (start_at f ts k) s));
          }

  -- A required cube of a transition: a run, or the label.
  right-label : (k x : ℕ) → k < count ts → Memᴰ x (labels n f (kind_at f ts k) (start ts k) (end ts k)) → ¬ T (covered net (span n (start_at f ts k) x))
      → ((p : Cube) → Memᴰ p net → ConditionC (privileged n f ts) p) → Right (uncovered k x)
  right-label k x l m u c =
      go (ltb k (count ts)) (is_high (kind_at f ts k)) (is (lt→ltb k (count ts) l))
      (uncovered_at n f (start ts k) (end ts k) net good (kind_at f ts k)
      (λ d. legal→ n f ts net accepted well k (λ j h. c (product_at net j) (entry_at net j h) (privileged_at n f ts k) (privileged_i n f ts k l d))) x m u)
    where
      run : List Wire
      run = pulse high 0 (start ts k) (end ts k) net

      go : (listed high' : Bool) → listed ≡ true → Uncovered n f (start ts k) (end ts k) net good (kind_at f ts k) x high'
          → EvidenceB f ts net k x (cond (listed && high') run []) (listed && high')
      go true true e w = record { whole = pulse_run high 0 (start ts k) (end ts k) net; not_allowed = w }
      go true false e w = (w, refl)
      go false h e w = absurd (true≢false (sym e))

  -- A single point: its number is past the last transition.
  right-point : (x : ℕ) → T (unvisited n f ts x) → ¬ T (covered net (span n x x)) → Right (uncovered (count ts) x)
  right-point x t u = go (ltb (count ts) (count ts)) (is_high (kind_at f ts (count ts))) (isnt (ltb (count ts) (count ts)) (λ h. omega (arith, ltb→lt (count ts) (count ts) h)))
    where
      run : List Wire
      run = pulse high 0 (start ts (count ts)) (end ts (count ts)) net

      go : (listed high' : Bool) → listed ≡ false → EvidenceB f ts net (count ts) x (cond (listed && high') run []) (listed && high')
      go true h e = absurd (true≢false e)
      go false h e = (point_at_rest n f net good x u (simp tests at t).0, refl)

  right-required : (r : Required) → Memᴰ r (required n f ts) → ¬ T (covered net r.cube) → ((p : Cube) → Memᴰ p net → ConditionC (privileged n f ts) p)
      → Right (uncovered r.transition r.label)
  right-required r m u c = elim (required_cases n f ts m) [
    | inl t ↦ let (k, x, l, i, e) = transition_e n f ts t in
        subst (λ (q : Required). ¬ T (covered net q.cube) → Right (uncovered q.transition q.label)) e (λ h. right-label k x l i h c) u
    | inr t ↦ let (x, l, h, e) = point_e n f ts t in
        subst (λ (q : Required). ¬ T (covered net q.cube) → Right (uncovered q.transition q.label)) e (λ w. right-point x h w) u
  ]

  named_right : (v : Verdict) → Named n f ts net v → Right v
  named_right (refused r) w = elim w [ ]
  named_right passed (none_named h) = refl
  named_right (holds_zero j x) (zero_named l m t o u w) = (zero_at_rest f net j x l t o, refl)
  named_right (intersects j k) (illegal_named {v = v} l m t u w z) = right-intersects j v l m t z
  named_right (uncovered k x) (cube_named {r = r} m t u a c) = right-required r m t c

  pub fault-right : Right (fault n f ts net)
  fault-right = named_right (fault n f ts net) (fault_named n f ts net)

  -- At most n wires for each product.
  pub run_few : (v : Verdict) → length (run_for f ts net v) ≤ n * length net
  run_few (refused r) = omega arith
  run_few passed = omega arith
  run_few (holds_zero j x) = omega arith
  run_few (intersects j k) = pulse-few n (kind_at f ts k) j (start ts k) (end ts k) net good
  run_few (uncovered k x) = go (stays_high f ts k)
    where
      go : (b : Bool) → length {A = Wire} (cond b (pulse high 0 (start ts k) (end ts k) net) []) ≤ n * length net
      go true = pulse-few n high 0 (start ts k) (end ts k) net good
      go false = omega arith

module _ (n : ℕ) (f ts bytes : List ℕ) (room : ℕ) where
  abbrev network : Network
  network = products n bytes

  -- The run for the definition's verdict shows it, for refused input too.
  pub verdict-right : Evidence f ts network (verdict n f ts bytes room) (run_for f ts network (verdict n f ts bytes room))
  verdict-right = go (first_of (verifier_checks n f ts bytes room)) refl
    where
      judged : Option Refusal → Verdict
      judged o = elim o [ Some r ↦ refused r | None ↦ fault n f ts network ]

      go : (o : Option Refusal) → first_of (verifier_checks n f ts bytes room) ≡ o → Evidence f ts network (judged o) (run_for f ts network (judged o))
      go (Some r) e = refl
      go None e = fault-right n f ts network (checked_accepted n f ts bytes room e) (checked_well_formed n f ts bytes room e)

  -- The whole promise, of the run for the definition's verdict.
  pub shown : {v : Verdict} → v ≡ verdict n f ts bytes room → {before after : List ℕ} {size : ℕ} → size ≡ length (run_for f ts network v)
      → after ≡ numbers (run_for f ts network v) ++ drop (2 * length (run_for f ts network v)) before → Shown f ts network v before after size
  shown {v} e c b =
      record {
        wires = run_for f ts network v;
        evidence = subst⁻¹ (λ (w : Verdict). Evidence f ts network w (run_for f ts network w)) e verdict-right;
        counted = c;
        buffer = b;
      }

-- Where no run is due, nothing is counted and the buffer is unchanged.
abbrev pub due : List ℕ → List ℕ → Verdict → Bool
due f ts (refused r) = false
due f ts passed = false
due f ts (holds_zero j x) = false
due f ts (intersects j k) = true
due f ts (uncovered k x) = stays_high f ts k

module _ (f ts : List ℕ) (net : Network) where
  none_due : (v : Verdict) (ws : List Wire) → Evidence f ts net v ws → ¬ T (due f ts v) → ws ≡ []
  none_due (refused r) ws e no_run = e
  none_due passed ws e no_run = e
  none_due (holds_zero j x) ws e no_run = e.1
  none_due (intersects j k) ws e no_run = absurd (no_run tt)
  none_due (uncovered k x) ws e no_run = go (stays_high f ts k) e no_run
    where
      go : (b : Bool) → EvidenceB f ts net k x ws b → ¬ T b → ws ≡ []
      go true e no_run = absurd (no_run tt)
      go false e no_run = e.1

  pub unchanged : {v : Verdict} {before after : List ℕ} {size : ℕ} → Shown f ts net v before after size → ¬ T (due f ts v) → (size ≡ 0) × (after ≡ before)
  unchanged {v} {before} h no_run =
      let e = none_due v h.wires h.evidence no_run in
      (h.counted ∙ ap (λ (l : List Wire). length l) e, h.buffer ∙ ap (λ (l : List Wire). numbers l ++ drop (2 * length l) before) e)

  -- However the run was chosen, it has at most n wires for each product.
  evidence-few : (n : ℕ) → Products n net → (v : Verdict) (ws : List Wire) → Evidence f ts net v ws → length ws ≤ n * length net
  evidence-few n whole v ws e = go v e
    where
      empty : ws ≡ [] → length ws ≤ n * length net
      empty z = let l : length ws ≡ 0 = ap (λ (l : List Wire). length l) z in omega arith

      run : (k : ℕ) → Hazard f ts net k ws → length ws ≤ n * length net
      run k h = omega (arith, run_length (start ts k) (end ts k) net ws h.whole, wires-length n (start ts k) (end ts k) 0 net whole)

      cube : (k x : ℕ) (b : Bool) → EvidenceB f ts net k x ws b → length ws ≤ n * length net
      cube k x true h = run k h
      cube k x false h = empty h.1

      go : (v : Verdict) → Evidence f ts net v ws → length ws ≤ n * length net
      go (refused r) e = empty e
      go passed e = empty e
      go (holds_zero j x) e = empty e.1
      go (intersects j k) e = run k e
      go (uncovered k x) e = cube k x (stays_high f ts k) e

-- Every count is at most the limit, of refused input too.
pub shown_most : {n : ℕ} {f ts bytes : List ℕ} {room : ℕ} {v : Verdict} {before after : List ℕ} {size : ℕ}
    → Verified n f ts bytes room v → Shown f ts (products n bytes) v before after size → size ≤ most_wires
shown_most {n} {f} {ts} {bytes} {room} {v} {size = size} p h = go (first_of (verifier_checks n f ts bytes room)) refl
  where
    go : (o : Option Refusal) → first_of (verifier_checks n f ts bytes room) ≡ o → size ≤ most_wires
    go (Some r) e =
        let w : v ≡ refused r = p.is ∙ ap (λ (q : Option Refusal). elim q as (λ (x : Option Refusal). Verdict) [ Some r ↦ refused r | None ↦ fault n f ts (products n bytes) ]) e in
        let z = unchanged f ts (products n bytes) h (subst⁻¹ (λ (u : Verdict). ¬ T (due f ts u)) w (λ t. t)) in
        omega (arith, z.0)
    go None e =
        let c : products_check n bytes ≡ None = first_of-none (own_checks n bytes room) ((first_of-append (input_checks n f ts) (own_checks n bytes room)).0 e).1 (search entries) in
        omega (
          arith,
          h.counted,
          evidence-few f ts (products n bytes) n (well_formed→ (checked_well_formed n f ts bytes room e)) v h.wires h.evidence,
          mul-le-mul (few-inputs n f ts (checked_accepted n f ts bytes room e)).1 (products-few n bytes c),
        )

-- With an empty list no run is due, so none is written: every fault is a difference at rest.
pub shown_classical : {n : ℕ} {f bytes : List ℕ} {room : ℕ} {v : Verdict} {before after : List ℕ} {size : ℕ}
    → Verified n f [] bytes room v → Shown f [] (products n bytes) v before after size → (size ≡ 0) × (after ≡ before)
shown_classical {n} {f} {bytes} {room} p h =
    unchanged f [] (products n bytes) h (subst⁻¹ (λ (u : Verdict). ¬ T (due f [] u)) (verified_classical n f p).is
    (go (first_of (function_checks n f ++ own_checks n bytes room)) (fault_a n (off f) (products n bytes)) (missed n f (products n bytes))))
  where
    found : Option (ℕ × ℕ) → Option ℕ → Verdict
    found a b = elim a [ Some q ↦ holds_zero q.0 q.1 | None ↦ elim b [ Some x ↦ uncovered 0 x | None ↦ passed ] ]

    go : (o : Option Refusal) (a : Option (ℕ × ℕ)) (b : Option ℕ) → ¬ T (due f [] (elim o [ Some r ↦ refused r | None ↦ found a b ]))
    go (Some r) a b t = t
    go None (Some q) b t = t
    go None None (Some x) t = t
    go None None None t = t
