-- Lists of wires, by how often each wire stands in them; and the wires of a network.
use mathlib.Core.Path.{◌≡◌, refl, sym, ap, ◌∙◌, subst, subst⁻¹}
use mathlib.Core.Logic.{◌≢◌, inl, inr}
use mathlib.Core.Bool.{Bool, true, false, not, ◌&&◌, ◌||◌}
use mathlib.Core.List.{List, [], ◌∷◌, ◌++◌}
use Prim.Native.Nat.{ℕ, zero, suc, ◌+◌, ◌≤◌, ◌<◌}
use native.Mathlib.Nat.{not-suc-le-zero, le_of_suc-le-suc, zero-add, add-zero}
use native.Mathlib.Omega.{arith}
use lib.Dec.{T, eqb}
use lib.ListN.{length}
use Rattle.hazard.specs.Cube.{Cube, bit}
use Rattle.hazard.specs.Cover.{Network, product_at}
use Rattle.hazard.specs.Run.{Wire, wire, same_wire, seen, times, wires_of, wires, Run}
use Rattle.hazard.specs.Pulse.{passing}
use Rattle.hazard.proofs.Test.{tests, so, so_not, or_l, or_r, or_e, known, cond_yes, cond_no}
use Rattle.hazard.proofs.Point.{dig}

-- Wires are the same if the test says so.
same_self : (w : Wire) → T (same_wire w w)
same_self w = simp tests (refl, refl)

same-eq : (v w : Wire) → T (same_wire v w) → v ≡ w
same-eq v w t = let r = simp tests at t in λ k. record { product = r.0 k; input = r.1 k }

-- How a wire in front counts.
times-same : (v : Wire) (vs : List Wire) (w : Wire) → T (same_wire v w) → times (v ∷ vs) w ≡ suc (times vs w)
times-same v vs w t = omega (arith, cond_yes {A = ℕ} (same_wire v w) 1 0 t)

times-other : (v : Wire) (vs : List Wire) (w : Wire) → ¬ T (same_wire v w) → times (v ∷ vs) w ≡ times vs w
times-other v vs w t = omega (arith, cond_no {A = ℕ} (same_wire v w) 1 0 t)

-- A wire stands in a list that counts it.
pub times-seen : (r : List Wire) (w : Wire) → 0 < times r w → T (seen r w)
times-seen [] w h = absurd (not-suc-le-zero h)
times-seen (v ∷ vs) w h =
    elim (known (same_wire v w)) [
      | inl t ↦ or_l (same_wire v w) (seen vs w) t
      | inr t ↦ or_r (same_wire v w) (seen vs w) (times-seen vs w (omega (arith, times-other v vs w t)))
    ]

pub seen-times : (r : List Wire) (w : Wire) → T (seen r w) → 0 < times r w
seen-times [] w t = absurd t
seen-times (v ∷ vs) w t =
    elim (or_e (same_wire v w) (seen vs w) t) [ inl u ↦ omega (arith, times-same v vs w u) | inr u ↦ omega (arith, seen-times vs w u) ]

times_zero : (r : List Wire) (w : Wire) → ¬ T (seen r w) → times r w ≡ 0
times_zero r w t = let h : ¬ (0 < times r w) = λ u. t (times-seen r w u) in omega arith

pub times-append : (r s : List Wire) (w : Wire) → times (r ++ s) w ≡ times r w + times s w
times-append [] s w = sym (zero-add (times s w))
times-append (v ∷ vs) s w = omega (arith, times-append vs s w)

seen-left : (r s : List Wire) (w : Wire) → T (seen r w) → T (seen (r ++ s) w)
seen-left r s w t = times-seen (r ++ s) w (omega (arith, times-append r s w, seen-times r w t))

seen-right : (r s : List Wire) (w : Wire) → T (seen s w) → T (seen (r ++ s) w)
seen-right r s w t = times-seen (r ++ s) w (omega (arith, times-append r s w, seen-times s w t))

-- The wires that have moved after those of r, one by one, on top of those of m.
abbrev pub after : List Wire → List Wire → List Wire
after [] m = m
after (w ∷ ws) m = after ws (w ∷ m)

pub times_after : (r m : List Wire) (w : Wire) → times (after r m) w ≡ times r w + times m w
times_after [] m w = sym (zero-add (times m w))
times_after (v ∷ vs) m w = omega (arith, times_after vs (v ∷ m) w)

-- A wire that passes a test stands among those that pass as often as before, any other not at all.
pub times_selected : (q : Wire → Bool) (r : List Wire) (w : Wire) → T (q w) → times (passing q r) w ≡ times r w
times_selected q [] w t = refl
times_selected q (v ∷ vs) w t = go (q v) refl (times_selected q vs w t)
  where
    go : (b : Bool) → q v ≡ b → times (passing q vs) w ≡ times vs w → times (elim b [ true ↦ v ∷ passing q vs | false ↦ passing q vs ]) w ≡ times (v ∷ vs) w
    go true e h = omega arith
    go false e h = omega (arith, times-other v vs w (λ u. so_not e (subst⁻¹ (λ (x : Wire). T (q x)) (same-eq v w u) t)))

pub times-left : (q : Wire → Bool) (r : List Wire) (w : Wire) → ¬ T (q w) → times (passing q r) w ≡ 0
times-left q [] w t = refl
times-left q (v ∷ vs) w t = go (q v) refl (times-left q vs w t)
  where
    go : (b : Bool) → q v ≡ b → times (passing q vs) w ≡ 0 → times (elim b [ true ↦ v ∷ passing q vs | false ↦ passing q vs ]) w ≡ 0
    go true e h = omega (arith, times-other v (passing q vs) w (λ u. t (subst (λ (x : Wire). T (q x)) (same-eq v w u) (so e))))
    go false e h = h

-- A list with the first place of a wire taken out.
abbrev without_wire : Wire → List Wire → List Wire
without_wire v [] = []
without_wire v (w ∷ ws) = elim (same_wire w v) [ true ↦ ws | false ↦ w ∷ without_wire v ws ]

length_without : (v : Wire) (s : List Wire) → T (seen s v) → length s ≡ suc (length (without_wire v s))
length_without v [] t = absurd t
length_without v (w ∷ ws) t = go (same_wire w v) t (length_without v ws)
  where
    go : (b : Bool) → T (b || seen ws v) → (T (seen ws v) → length ws ≡ suc (length (without_wire v ws)))
        → suc (length ws) ≡ suc (length {A = Wire} (elim b [ true ↦ ws | false ↦ w ∷ without_wire v ws ]))
    go true t h = refl
    go false t h = ap suc (h t)

times-without : (v : Wire) (s : List Wire) → T (seen s v) → (w : Wire) → times s w ≡ times (v ∷ []) w + times (without_wire v s) w
times-without v [] t w = absurd t
times-without v (u ∷ us) t w = go (same_wire u v) refl t (times-without v us)
  where
    go : (b : Bool) → same_wire u v ≡ b → T (b || seen us v) → (T (seen us v) → (w : Wire) → times us w ≡ times (v ∷ []) w + times (without_wire v us) w)
        → times (u ∷ us) w ≡ times (v ∷ []) w + times (elim b [ true ↦ us | false ↦ u ∷ without_wire v us ]) w
    go true e t h = rw (same-eq u v (so e)) (omega arith)
    go false e t h = omega (arith, h t w)

-- Lists that count each wire alike are of one length.
times-length : (r s : List Wire) → ((w : Wire) → times r w ≡ times s w) → length r ≡ length s
times-length [] [] h = refl
times-length [] (v ∷ vs) h = absurd (omega (arith, h v, times-same v vs v (same_self v)))
times-length (v ∷ vs) s h =
    let t = times-seen s v (omega (arith, h v, times-same v vs v (same_self v))) in
    let e = times-length vs (without_wire v s) (λ w. omega (arith, h w, times-without v s t w)) in
    omega (arith, length_without v s t)

-- A wire that is taken stands in front; what stands behind stays.
seen_head : (c : Bool) (v : Wire) (vs : List Wire) → T c → T (seen (elim c [ true ↦ v ∷ vs | false ↦ vs ]) v)
seen_head true v vs t = or_l (same_wire v v) (seen vs v) (same_self v)
seen_head false v vs t = absurd t

seen_tail : (c : Bool) (v : Wire) (vs : List Wire) (w : Wire) → T (seen vs w) → T (seen (elim c [ true ↦ v ∷ vs | false ↦ vs ]) w)
seen_tail true v vs w t = or_r (same_wire v w) (seen vs w) t
seen_tail false v vs w t = t

-- A literal of product j whose input moves, at a place from input i on.
record Moving (a b j i : ℕ) (p : Cube) (w : Wire) : Type 0 where
  place : ℕ
  mine : j ≡ w.product
  here : i + place ≡ w.input
  literal : dig p place ≢ 2
  moving : bit a w.input ≢ bit b w.input

module _ (a b : ℕ) where
  -- The test by which wires_of takes a wire.
  abbrev taken : ℕ → ℕ → Bool
  taken i d = not (eqb d 2) && not (eqb (bit a i) (bit b i))

  -- Each literal on a moving input has its wire.
  seen_of : (j i : ℕ) (p : Cube) (k : ℕ) → dig p k ≢ 2 → bit a (i + k) ≢ bit b (i + k) → T (seen (wires_of a b j i p) (wire j (i + k)))
  seen_of j i [] k ne d = absurd (ne refl)
  seen_of j i (e ∷ es) zero ne d = rw (add-zero i) (seen_head (taken i e) (wire j i) (wires_of a b j (suc i) es) (simp tests (ne, rw (add-zero i) at d)))
  seen_of j i (e ∷ es) (suc k) ne d = seen_tail (taken i e) (wire j i) (wires_of a b j (suc i) es) (wire j (i + suc k)) (rw next (seen_of j (suc i) es k ne (rw next at d)))
    where
      next : i + suc k ≡ suc i + k
      next = omega arith

  seen-wires : (j : ℕ) (net : Network) (k i : ℕ) → k < length net → dig (product_at net k) i ≢ 2 → bit a i ≢ bit b i → T (seen (wires a b j net) (wire (j + k) i))
  seen-wires j [] k i h ne d = absurd (not-suc-le-zero h)
  seen-wires j (p ∷ net) zero i h ne d =
      seen-left (wires_of a b j 0 p) (wires a b (suc j) net) (wire (j + 0) i) (rw (add-zero j) (rw (zero-add i) at (seen_of j 0 p i ne (rw (zero-add i) d))))
  seen-wires j (p ∷ net) (suc k) i h ne d =
      seen-right (wires_of a b j 0 p) (wires a b (suc j) net) (wire (j + suc k) i)
      (subst (λ (l : ℕ). T (seen (wires a b (suc j) net) (wire l i))) (omega arith) (seen-wires (suc j) net k i (le_of_suc-le-suc h) ne d))

  -- What stands among the wires of a product is such a literal.
  of_e : (j i : ℕ) (p : Cube) (w : Wire) → T (seen (wires_of a b j i p) w) → Moving a b j i p w
  of_e j i [] w t = absurd t
  of_e j i (d ∷ ds) w t = go (taken i d) refl t (of_e j (suc i) ds w)
    where
      next : Moving a b j (suc i) ds w → Moving a b j i (d ∷ ds) w
      next r = let h = r.here in record { place = suc r.place; mine = r.mine; here = omega arith; literal = r.literal; moving = r.moving }

      go : (c : Bool) → taken i d ≡ c → T (seen (elim c [ true ↦ wire j i ∷ wires_of a b j (suc i) ds | false ↦ wires_of a b j (suc i) ds ]) w)
          → (T (seen (wires_of a b j (suc i) ds) w) → Moving a b j (suc i) ds w) → Moving a b j i (d ∷ ds) w
      go true e t below =
          elim (or_e (same_wire (wire j i) w) (seen (wires_of a b j (suc i) ds) w) t) [
            | inl u ↦ let r = simp tests at u in let s = simp tests at (so e) in
                record { place = 0; mine = r.0; here = add-zero i ∙ r.1; literal = s.0; moving = subst (λ (x : ℕ). bit a x ≢ bit b x) r.1 s.1 }
            | inr u ↦ next (below u)
          ]
      go false e t below = next (below t)

  -- No wire stands twice.
  of_once : (j i : ℕ) (p : Cube) (w : Wire) → times (wires_of a b j i p) w ≤ 1
  of_once j i [] w = omega arith
  of_once j i (d ∷ ds) w = go (taken i d) (of_once j (suc i) ds w)
    where
      rest : List Wire
      rest = wires_of a b j (suc i) ds

      go : (c : Bool) → times rest w ≤ 1 → times (elim c [ true ↦ wire j i ∷ rest | false ↦ rest ]) w ≤ 1
      go false h = h
      go true h =
          elim (known (same_wire (wire j i) w)) [
            | inr t ↦ omega (arith, times-other (wire j i) rest w t)
            | inl t ↦ elim (known (seen rest w)) [
              | inl u ↦ let r = of_e j (suc i) ds w u in let s = simp tests at t in let h = r.here in absurd (omega (arith, s.1))
              | inr u ↦ omega (arith, times-same (wire j i) rest w t, times_zero rest w u)
            ]
          ]

  wires_e : (j : ℕ) (net : Network) (w : Wire) → T (seen (wires a b j net) w) → (k : ℕ) × (k < length net) × Moving a b (j + k) 0 (product_at net k) w
  wires_e j [] w t = absurd t
  wires_e j (p ∷ net) w t =
      elim (known (seen (wires_of a b j 0 p) w)) [
        | inl u ↦ (0, omega arith, subst (λ (z : ℕ). Moving a b z 0 p w) (omega arith) (of_e j 0 p w u))
        | inr u ↦ let r = wires_e (suc j) net w (times-seen (wires a b (suc j) net) w (omega (
          arith,
          times-append (wires_of a b j 0 p) (wires a b (suc j) net) w,
          times_zero (wires_of a b j 0 p) w u,
          seen-times (wires a b j (p ∷ net)) w t,
        ))) in
            (suc r.0, omega (arith, r.1), subst (λ (z : ℕ). Moving a b z 0 (product_at net r.0) w) (omega arith) r.2)
      ]

  wires_once : (j : ℕ) (net : Network) (w : Wire) → times (wires a b j net) w ≤ 1
  wires_once j [] w = omega arith
  wires_once j (p ∷ net) w =
      elim (known (seen (wires a b (suc j) net) w)) [
        | inr u ↦ omega (arith, times-append (wires_of a b j 0 p) (wires a b (suc j) net) w, of_once j 0 p w, times_zero (wires a b (suc j) net) w u)
        | inl u ↦ omega (
          arith,
          times-append (wires_of a b j 0 p) (wires a b (suc j) net) w,
          wires_once (suc j) net w,
          times_zero (wires_of a b j 0 p) w (λ v. omega (arith, (of_e j 0 p w v).mine, (wires_e (suc j) net w u).2.mine)),
        )
      ]

  -- The wire of a literal of the network whose input moves.
  pub record Literal (net : Network) (w : Wire) : Type 0 where
    pub place : w.product < length net
    pub literal : dig (product_at net w.product) w.input ≢ 2
    pub moving : bit a w.input ≢ bit b w.input

  -- It stands once among the network's wires, so a run moves it once.
  pub times_literal : (net : Network) (w : Wire) → Literal net w → times (wires a b 0 net) w ≡ 1
  times_literal net w h = omega (
    arith,
    wires_once 0 net w,
    seen-times (wires a b 0 net) w (rw (zero-add w.product) at (seen-wires 0 net w.product w.input h.place h.literal h.moving)),
  )

  -- A run moves the wire of each literal whose input moves once, and no other wire.
  pub run_wires : (net : Network) (r : List Wire) → Run a b net r → (w : Wire) → (Literal net w → times r w ≡ 1) × (¬ Literal net w → times r w ≡ 0)
  run_wires net r h w = (λ l. h w ∙ times_literal net w l, λ l. h w ∙ times_zero (wires a b 0 net) w (λ t. l (literal t)))
    where
      literal : T (seen (wires a b 0 net) w) → Literal net w
      literal t =
          let (j, l, m) = wires_e 0 net w t in
          let k : j ≡ w.product = omega (arith, m.mine) in
          let i : m.place ≡ w.input = omega (arith, m.here) in
          record { place = omega (arith, l, k); literal = λ z. m.literal (rw (k, i) z); moving = m.moving }

  -- So every run has as many wires as the network.
  pub run_length : (net : Network) (r : List Wire) → Run a b net r → length r ≡ length (wires a b 0 net)
  run_length net r h = times-length r (wires a b 0 net) h
