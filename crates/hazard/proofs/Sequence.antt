-- The sequence of products is a strict order of all of them. An ascending network is known by its products; and what a network has does not
-- depend on the order in which it stands.
use mathlib.Core.Path.{◌≡◌, refl, sym, ◌∙◌}
use mathlib.Core.Logic.{inl, inr}
use mathlib.Core.List.Memᴰ
use mathlib.Core.List.Pairwise
use mathlib.Core.List.{List, [], ◌∷◌, Memᴰ, Nodup}
use Prim.Native.Nat.{ℕ, zero, suc, ◌<◌}
use native.Mathlib.Omega.{arith}
use native.Mathlib.Nat.{not-suc-le-zero, le_of_suc-le-suc}
use lib.Dec.{T, eqb, ltb, ltb→lt, lt→ltb, eqb→eq}
use lib.ListN.{length}
use Rattle.hazard.specs.Cube.{Cube}
use Rattle.hazard.specs.Sets.{Required}
use Rattle.hazard.specs.Cover.{Network, product_at, covered, without, Own, Irredundant}
use Rattle.hazard.specs.Sequence.{before, ascending}
use Rattle.hazard.proofs.Test.{or_l, or_r, or_e, T_and, eqb_of}
use Rattle.hazard.proofs.Network.{place_of, entry_at, entry_cases, without_member, covered_entry, covered_by}

-- One product comes before another, by the input that decides.
pub data Before : Cube → Cube → Type 0 where
  short : {e : ℕ} {es : Cube} → Before [] (e ∷ es)
  less : {d e : ℕ} {ds es : Cube} → d < e → Before (d ∷ ds) (e ∷ es)
  same : {d e : ℕ} {ds es : Cube} → d ≡ e → Before ds es → Before (d ∷ ds) (e ∷ es)

pub before→ : (p q : Cube) → T (before p q) → Before p q
before→ [] [] t = absurd t
before→ [] (e ∷ es) t = short
before→ (d ∷ ds) [] t = absurd t
before→ (d ∷ ds) (e ∷ es) t =
    elim (or_e (ltb d e) _ t) [ inl u ↦ less (ltb→lt d e u) | inr u ↦ let (i, j) = (T_and (eqb d e) (before ds es)).0 u in same (eqb→eq d e i) (before→ ds es j) ]

pub →before : {p q : Cube} → Before p q → T (before p q)
→before short = tt
→before (less {d = d} {e = e} l) = or_l (ltb d e) _ (lt→ltb d e l)
→before (same {d = d} {e = e} {ds = ds} {es = es} q b) = or_r (ltb d e) _ ((T_and (eqb d e) (before ds es)).1 (eqb_of q, →before b))

pub before_trans : {p q r : Cube} → Before p q → Before q r → Before p r
before_trans short (less m) = short
before_trans short (same f c) = short
before_trans (less {d = d} l) (less {e = e} m) = less {d = d} {e = e} (omega arith)
before_trans (less {d = d} l) (same {e = e} f c) = less {d = d} {e = e} (omega arith)
before_trans (same {d = d} f b) (less {e = e} m) = less {d = d} {e = e} (omega arith)
before_trans (same e b) (same f c) = same (e ∙ f) (before_trans b c)

pub before_asym : {p q : Cube} → Before p q → ¬ Before q p
before_asym short m = elim m [ ]
before_asym (less l) (less m) = omega arith
before_asym (less l) (same f c) = omega arith
before_asym (same e b) (less m) = omega arith
before_asym (same e b) (same f c) = before_asym b c

-- Two products of which neither comes before the other are the same.
pub before_total : (p q : Cube) → ¬ Before p q → ¬ Before q p → p ≡ q
before_total [] [] h k = refl
before_total [] (e ∷ es) h k = absurd (h short)
before_total (d ∷ ds) [] h k = absurd (k short)
before_total (d ∷ ds) (e ∷ es) h k =
    let a : ¬ (d < e) = λ l. h (less l) in
    let b : ¬ (e < d) = λ l. k (less l) in
    let i : d ≡ e = omega arith in
    let j : ds ≡ es = before_total ds es (λ c. h (same i c)) (λ c. k (same (sym i) c)) in
    cc

-- An ascending network: its rest is ascending, and its first product comes before all others.
pub ascending-rest : (p : Cube) (net : Network) → T (ascending (p ∷ net)) → T (ascending net)
ascending-rest p [] t = tt
ascending-rest p (q ∷ net) t = ((T_and (before p q) (ascending (q ∷ net))).0 t).1

pub ascending-first : (p : Cube) (net : Network) → T (ascending (p ∷ net)) → (q : Cube) → Memᴰ q net → Before p q
ascending-first p [] t q m = absurd (Memᴰ.not-nil m)
ascending-first p (r ∷ net) t q m =
    let (b, a) = (T_and (before p r) (ascending (r ∷ net))).0 t in
    elim (Memᴰ.cases_cons m) [ inl e ↦ rw e (before→ p r b) | inr u ↦ before_trans (before→ p r b) (ascending-first r net a q u) ]

-- Two ascending networks of the same products are equal.
pub ascending_once : (l m : Network) → T (ascending l) → T (ascending m) → ((x : Cube) → Memᴰ x l → Memᴰ x m) → ((x : Cube) → Memᴰ x m → Memᴰ x l) → l ≡ m
ascending_once [] [] a b f g = refl
ascending_once [] (q ∷ m) a b f g = absurd (Memᴰ.not-nil (g q (Memᴰ.head refl)))
ascending_once (p ∷ l) [] a b f g = absurd (Memᴰ.not-nil (f p (Memᴰ.head refl)))
ascending_once (p ∷ l) (q ∷ m) a b f g =
    let e : p ≡ q = first in
    let d : l ≡ m = ascending_once l m (ascending-rest p l a) (ascending-rest q m b) (λ x u. rest p l q m a e x u (f x (Memᴰ.tail u))) (λ x u. rest q m p l b (sym e) x u (g x (Memᴰ.tail u))) in
    cc
  where
    first : p ≡ q
    first = elim (Memᴰ.cases_cons (f p (Memᴰ.head refl))) [
      | inl e ↦ e
      | inr u ↦ elim (Memᴰ.cases_cons (g q (Memᴰ.head refl))) [ inl e ↦ sym e | inr v ↦ absurd (before_asym (ascending-first q m b p u) (ascending-first p l a q v)) ]
    ]

    rest : (p : Cube) (l : Network) (q : Cube) (m : Network) → T (ascending (p ∷ l)) → p ≡ q → (x : Cube) → Memᴰ x l → Memᴰ x (q ∷ m) → Memᴰ x m
    rest p l q m a e x u v = elim (Memᴰ.cases_cons v) [ inl d ↦ let h : Before p p = rw (d ∙ sym e) at (ascending-first p l a x u) in absurd (before_asym h h) | inr w ↦ w ]

-- Where no product stands twice, product j is none of the others.
not_again : (net : Network) (j : ℕ) → j < length net → Nodup net → ¬ Memᴰ (product_at net j) (without j net)
not_again [] j l d m = not-suc-le-zero l
not_again (p ∷ net) zero l (Pairwise.cons h d) m = h p ∣ m ∣₁ refl
not_again (p ∷ net) (suc j) l (Pairwise.cons h d) m =
    elim (Memᴰ.cases_cons m) [ inl e ↦ h (product_at net j) ∣ entry_at net j (le_of_suc-le-suc l) ∣₁ (sym e) | inr u ↦ not_again net j (le_of_suc-le-suc l) d u ]

-- The same products in another order, none twice: a required cube that lies in the one network lies in the other, and each product keeps its own.
module _ {l m : Network} where
  pub reordered_covered : ((p : Cube) → Memᴰ p l → Memᴰ p m) → (c : Cube) → T (covered l c) → T (covered m c)
  reordered_covered to c t = let (p, i, u) = covered_entry l c t in covered_by c (to p i) u

  pub reordered_own : (rs : List Required) → ((p : Cube) → Memᴰ p m → Memᴰ p l) → Nodup m → Irredundant rs l → Irredundant rs m
  reordered_own rs from once own j h = go (place_of (from (product_at m j) (entry_at m j h)))
    where
      go : (i : ℕ) × (i < length l) × (product_at l i ≡ product_at m j) → Own rs m j
      go (i, k, e) =
          let o = own i k in
          record {
            cube = o.cube;
            listed = o.listed;
            mine = rw e at o.mine;
            alone = λ t.
                let (q, u, v) = covered_entry (without j m) o.cube.cube t in
                elim (entry_cases l i (from q (without_member j m u))) [
                  | inl d ↦ not_again m j h once (Memᴰ.cast (sym (d ∙ e)) u)
                  | inr w ↦ o.alone (covered_by o.cube.cube w v)
                ];
          }
