-- What is packed is read back, and every answer fits.
use mathlib.Core.Path.{◌≡◌, refl, sym, ap, subst⁻¹, ◌∙◌}
use mathlib.Core.List.{List, [], ◌∷◌}
use Rattle.std.specs.Prelude.{Option, None, Some}
use Prim.Native.Nat.{ℕ, ◌+◌, ◌*◌, ◌/◌, ◌%◌, ◌≤◌, ◌<◌}
use native.Mathlib.Nat.{zero-add, mod-eq_of_lt, div-eq_of_lt, add-mul-div_left, add-mul-mod_self_left}
use native.Mathlib.Omega.{arith}
use lib.Dec.{eqb, eqb→eq}
use lib.ListN.{length}
use Rattle.hazard.specs.Search.{first_of}
use Rattle.hazard.specs.Refusal.{Refusal, input_checks, Accepted}
use Rattle.hazard.specs.Minimal.{room_check, blocking, minimiser_checks, Minimised, written, declined, Promise}
use Rattle.hazard.specs.Verdict.{products, Fields, fields_of, Verdict, Verified}
use Rattle.hazard.specs.Shown.{Shown}
use Rattle.hazard.proofs.Test.{cond_no}
use Rattle.hazard.proofs.Search.{first_of-append}
use Rattle.hazard.proofs.Bounds.{minimiser_bounds, minimal_few, verdict_bounds}
use Rattle.hazard.proofs.Shown.{shown_most}
use Rattle.packing.specs.Packed.{unpacked_refusal, unpacked_answer, unpacked_verdict, unpacked_wires, RefusalFits, AnswerFits, FindingFits}

-- The low place and the rest of a number.
low : (m x y : ℕ) → x < m → (x + m * y) % m ≡ x
low m x y h = add-mul-mod_self_left x m y ∙ mod-eq_of_lt h

high : (m x y : ℕ) → x < m → (x + m * y) / m ≡ y
high m x y h = let p : 0 < m = omega arith in add-mul-div_left x y p ∙ rw (div-eq_of_lt h) (zero-add y)

-- A refusal's fields in their places.
abbrev pub packed_refusal : Refusal → ℕ
packed_refusal q = q.number + 256 * (q.transition + 65536 * (q.point + 65536 * (q.steps + 256 * q.lowest)))

pub refusal_exact : (q : Refusal) → RefusalFits q → (w : ℕ) → w ≡ packed_refusal q → unpacked_refusal w ≡ q
refusal_exact q h w e =
    rw e (same (low 256 q.number t h.number) (rw a (low 65536 q.transition u h.transition)) (rw (a, b) (low 65536 q.point v h.point))
    (rw (a, b, c) (low 256 q.steps q.lowest h.steps)) (rw (a, b, c) (high 256 q.steps q.lowest h.steps)) (sym h.product))
  where
    v : ℕ
    v = q.steps + 256 * q.lowest

    u : ℕ
    u = q.point + 65536 * v

    t : ℕ
    t = q.transition + 65536 * u

    a : packed_refusal q / 256 ≡ t
    a = high 256 q.number t h.number

    b : t / 65536 ≡ u
    b = high 65536 q.transition u h.transition

    c : u / 65536 ≡ v
    c = high 65536 q.point v h.point

    same : {i j k l m o : ℕ} → i ≡ q.number → j ≡ q.transition → k ≡ q.point → l ≡ q.steps → m ≡ q.lowest → o ≡ q.product
        → ◌≡◌ {A = Refusal} (record { number = i; transition = j; point = k; steps = l; lowest = m; product = o }) q
    same a b c d e f = rw (a, b, c, d, e, f)

-- A refusal and a count are read for what they are.
pub declined_exact : (w : ℕ) {q : Refusal} → 1 ≤ q.number → unpacked_refusal w ≡ q → unpacked_answer w ≡ declined q
declined_exact w {q} h e =
    let n : w % 256 ≡ q.number = ap (λ (r : Refusal). r.number) e in
    cond_no (eqb (w % 256) 0) _ _ (λ t. omega (arith, eqb→eq (w % 256) 0 t)) ∙ ap declined e

pub written_exact : (k w : ℕ) → w ≡ 256 * k → unpacked_answer w ≡ written k
written_exact k w e =
    let l : w % 256 ≡ 0 = omega arith in
    let h : w / 256 ≡ k = omega arith in
    rw (l, h)

-- A verdict's fields and the wires in their places.
abbrev pub packed_fields : Fields → ℕ → ℕ
packed_fields m k = m.number + 256 * (m.refusal + 256 * (m.product + 65536 * (m.transition + 128 * (m.point + 1024 * k))))

pub fields_exact : (m : Fields) (k : ℕ) → m.number < 256 → m.refusal < 256 → m.product < 65536 → m.transition < 128 → m.point < 1024 → (w : ℕ) → w ≡ packed_fields m k
    → (unpacked_verdict w ≡ m) × (unpacked_wires w ≡ k)
fields_exact m k hn hr hp ht hx w e =
    rw e (
      same (low 256 m.number t hn) (rw a (low 256 m.refusal u hr)) (rw (a, b) (low 65536 m.product v hp)) (rw (a, b, c) (low 128 m.transition x ht))
          (rw (a, b, c, d) (low 1024 m.point k hx)),
      rw (a, b, c, d) (high 1024 m.point k hx),
    )
  where
    x : ℕ
    x = m.point + 1024 * k

    v : ℕ
    v = m.transition + 128 * x

    u : ℕ
    u = m.product + 65536 * v

    t : ℕ
    t = m.refusal + 256 * u

    a : packed_fields m k / 256 ≡ t
    a = high 256 m.number t hn

    b : t / 256 ≡ u
    b = high 256 m.refusal u hr

    c : u / 65536 ≡ v
    c = high 65536 m.product v hp

    d : v / 128 ≡ x
    d = high 128 m.transition x ht

    same : {i j k l o : ℕ} → i ≡ m.number → j ≡ m.refusal → k ≡ m.product → l ≡ m.transition → o ≡ m.point
        → ◌≡◌ {A = Fields} (record { number = i; refusal = j; product = k; transition = l; point = o }) m
    same a b c d e = rw (a, b, c, d, e)

module _ {n : ℕ} {f ts : List ℕ} where
  -- Every answer that the minimiser may give fits.
  pub promise_fits : {before after : List ℕ} {r : Minimised} → Promise n f ts before after r → AnswerFits r
  promise_fits {before} {after} {r} p = go (first_of (minimiser_checks n f ts (length before))) refl
    where
      go : (o : Option Refusal) → first_of (minimiser_checks n f ts (length before)) ≡ o → AnswerFits r
      go (Some q) e =
          let b = minimiser_bounds n f ts (length before) e in
          subst⁻¹ AnswerFits (p.refused q e).0
          (record { number-low = b.number-low; number = omega arith; transition = omega arith; point = omega arith; steps = omega arith; lowest = omega arith; product = omega arith })
      go None e =
          let (net, s, m, w) = p.network e in
          let a : Accepted n f ts = ((first_of-append (input_checks n f ts) (room_check n f ts (length before) ∷ blocking n f ts ∷ [])).0 e).0 in
          let l : length net < 65536 = omega (arith, minimal_few n f ts a m) in
          subst⁻¹ AnswerFits s l

  -- Every verdict does, with the wires that are counted.
  pub verified-fits : {bytes : List ℕ} {room : ℕ} {v : Verdict} {before after : List ℕ} {size : ℕ}
      → Verified n f ts bytes room v → Shown f ts (products n bytes) v before after size → FindingFits (fields_of v) size
  verified-fits {bytes} {room} p h =
      let b = verdict_bounds n f ts bytes room in
      record {
        transition = omega (arith, b.transition, ap (λ (m : Fields). m.transition) p.fields);
        point = omega (arith, b.point, ap (λ (m : Fields). m.point) p.fields);
        wires' = omega (arith, shown_most p h);
      }
