-- What the products see, in one transition from a to b, once the wires of m have moved.
use mathlib.Core.Path.{◌≡◌, refl, sym, ap, ◌∙◌, subst}
use mathlib.Core.Logic.{◌↔◌, ◌⊎◌, inl, inr}
use mathlib.Core.List.{List, [], ◌∷◌}
use Prim.Native.Nat.{ℕ, zero, suc, ◌+◌, ◌^◌, ◌<◌}
use native.Mathlib.Nat.{not-suc-le-zero, le_of_suc-le-suc, zero-add}
use native.Mathlib.Omega.{arith}
use lib.Dec.{T}
use lib.ListN.{length}
use Rattle.hazard.specs.Cube.{Cube, bit, has, span}
use Rattle.hazard.specs.Cover.{Network, product_at}
use Rattle.hazard.specs.Run.{Wire, wire, same_wire, seen, sees, on, output}
use Rattle.hazard.proofs.Test.{tests, or_l, or_r, or_e, known, cond_yes, cond_no}
use Rattle.hazard.proofs.Cube.{Digits}
use Rattle.hazard.proofs.Point.{bit-lt, dig_short, Agrees, has_e, has_i, In, in_i, point, point-lt, bit-point}

module _ (a b : ℕ) where
  on-from : (m : List Wire) (j i : ℕ) (p : Cube) → T (on a b m j i p) → Agrees p (λ k. sees a b m j (i + k))
  on-from m j i [] t k ne = absurd (ne refl)
  on-from m j i (d ∷ ds) t zero ne = sym ((simp tests at t).0 ne) ∙ ap (sees a b m j) (omega arith)
  on-from m j i (d ∷ ds) t (suc k) ne = on-from m j (suc i) ds (simp tests at t).1 k ne ∙ ap (sees a b m j) (omega arith)

  from_on : (m : List Wire) (j i : ℕ) (p : Cube) → Agrees p (λ k. sees a b m j (i + k)) → T (on a b m j i p)
  from_on m j i [] h = tt
  from_on m j i (d ∷ ds) h =
      simp tests (λ ne. sym (h 0 ne ∙ ap (sees a b m j) (omega arith)), from_on m j (suc i) ds (λ k ne. h (suc k) ne ∙ ap (sees a b m j) (omega arith)))

  -- Product k is on: its literals have the values that they see.
  abbrev pub On : Network → List Wire → ℕ → Type 0
  On net m k = Agrees (product_at net k) (sees a b m k)

  out_from : (m : List Wire) (j : ℕ) (net : Network) → T (output a b m j net) → (k : ℕ) × (k < length net) × T (on a b m (j + k) 0 (product_at net k))
  out_from m j [] t = absurd t
  out_from m j (p ∷ net) t =
      elim (or_e (on a b m j 0 p) (output a b m (suc j) net) t) [
        | inl u ↦ (0, omega arith, subst (λ (l : ℕ). T (on a b m l 0 p)) (omega arith) u)
        | inr u ↦ let r = out_from m (suc j) net u in
            (suc r.0, omega (arith, r.1), subst (λ (l : ℕ). T (on a b m l 0 (product_at net r.0))) (omega arith) r.2)
      ]

  from_out : (m : List Wire) (j : ℕ) (net : Network) (k : ℕ) → k < length net → T (on a b m (j + k) 0 (product_at net k)) → T (output a b m j net)
  from_out m j [] k h t = absurd (not-suc-le-zero h)
  from_out m j (p ∷ net) zero h t = or_l (on a b m j 0 p) (output a b m (suc j) net) (subst (λ (l : ℕ). T (on a b m l 0 p)) (omega arith) t)
  from_out m j (p ∷ net) (suc k) h t =
      or_r (on a b m j 0 p) (output a b m (suc j) net)
      (from_out m (suc j) net k (le_of_suc-le-suc h) (subst (λ (l : ℕ). T (on a b m l 0 (product_at net k))) (omega arith) t))

  -- The output is 1 exactly if some product is on.
  pub out_e : (m : List Wire) (net : Network) → T (output a b m 0 net) → (k : ℕ) × (k < length net) × On net m k
  out_e m net t =
      let r = out_from m 0 net t in
      (r.0, r.1, λ i ne. on-from m (0 + r.0) 0 (product_at net r.0) r.2 i ne ∙ rw (zero-add r.0, zero-add i))

  pub out_i : (m : List Wire) (net : Network) (k : ℕ) → k < length net → On net m k → T (output a b m 0 net)
  out_i m net k l h = from_out m 0 net k l (from_on m (0 + k) 0 (product_at net k) (λ i ne. h i ne ∙ rw (zero-add k, zero-add i)))

  -- A literal sees b's value once its wire has moved, and a's value before.
  pub sees-moved : (m : List Wire) (k i : ℕ) → T (seen m (wire k i)) → sees a b m k i ≡ bit b i
  sees-moved m k i t = cond_yes (seen m (wire k i)) (bit b i) (bit a i) t

  pub sees_unmoved : (m : List Wire) (k i : ℕ) → ¬ T (seen m (wire k i)) → sees a b m k i ≡ bit a i
  sees_unmoved m k i t = cond_no (seen m (wire k i)) (bit b i) (bit a i) t

  pub sees_either : (m : List Wire) (k i : ℕ) → (sees a b m k i ≡ bit a i) ⊎ (sees a b m k i ≡ bit b i)
  sees_either m k i = elim (known (seen m (wire k i))) [ inl t ↦ inr (sees-moved m k i t) | inr t ↦ inl (sees_unmoved m k i t) ]

  -- One more wire: a literal sees what it saw, or it saw a's value and now sees b's.
  sees_step : (m : List Wire) (w : Wire) (k i : ℕ) → (sees a b (w ∷ m) k i ≡ sees a b m k i) ⊎ ((sees a b m k i ≡ bit a i) × (sees a b (w ∷ m) k i ≡ bit b i))
  sees_step m w k i = go (known (seen m (wire k i))) (known (seen (w ∷ m) (wire k i)))
    where
      go : T (seen m (wire k i)) ⊎ (¬ T (seen m (wire k i))) → T (seen (w ∷ m) (wire k i)) ⊎ (¬ T (seen (w ∷ m) (wire k i)))
          → (sees a b (w ∷ m) k i ≡ sees a b m k i) ⊎ ((sees a b m k i ≡ bit a i) × (sees a b (w ∷ m) k i ≡ bit b i))
      go (inl t) u = inl (sees-moved (w ∷ m) k i (or_r (same_wire w (wire k i)) (seen m (wire k i)) t) ∙ sym (sees-moved m k i t))
      go (inr t) (inl u) = inr (sees_unmoved m k i t, sees-moved (w ∷ m) k i u)
      go (inr t) (inr u) = inl (sees_unmoved (w ∷ m) k i u ∙ sym (sees_unmoved m k i t))

  -- A product that contains a, and is on, was on before; a product that contains b, and was on, is on.
  pub was_on : (m : List Wire) (w : Wire) (k : ℕ) (p : Cube) → T (has p a) → Agrees p (sees a b (w ∷ m) k) → Agrees p (sees a b m k)
  was_on m w k p t h i ne = elim (sees_step m w k i) [ inl e ↦ h i ne ∙ e | inr e ↦ has_e p a t i ne ∙ sym e.0 ]

  pub stays_on : (m : List Wire) (w : Wire) (k : ℕ) (p : Cube) → T (has p b) → Agrees p (sees a b m k) → Agrees p (sees a b (w ∷ m) k)
  stays_on m w k p t h i ne = elim (sees_step m w k i) [ inl e ↦ h i ne ∙ sym e | inr e ↦ has_e p b t i ne ∙ sym e.1 ]

-- Whatever wires have moved, a product sees some point of [A,B]: it is on exactly if it contains that point.
pub view : (n a b : ℕ) (m : List Wire) (k : ℕ) {p : Cube} → Digits n p
    → (x : ℕ) × (x < 2 ^ n) × T (has (span n a b) x) × (T (has p x) ↔ Agrees p (sees a b m k))
view n a b m k {p} w = (
  y,
  point-lt n (sees a b m k) small,
  in_i n a b y within,
  (λ t i ne. has_e p y t i ne ∙ value_at_lem i (dig_short w ne), λ h. has_i p y (λ i ne. h i ne ∙ sym (value_at_lem i (dig_short w ne)))),
)
  where
    small : (i : ℕ) → sees a b m k i < 2
    small i = elim (sees_either a b m k i) [ inl e ↦ omega (arith, bit-lt a i) | inr e ↦ omega (arith, bit-lt b i) ]

    y : ℕ
    y = point n (sees a b m k)

    value_at_lem : (i : ℕ) → i < n → bit y i ≡ sees a b m k i
    value_at_lem i l = bit-point n (sees a b m k) small i l

    within : In n a b y
    within i l e = elim (sees_either a b m k i) [ inl u ↦ sym u ∙ sym (value_at_lem i l) | inr u ↦ e ∙ sym u ∙ sym (value_at_lem i l) ]
