-- The products tried one after another for (a) and (c): the loop's invariant, and how its verdict becomes the network's.
use mathlib.Core.Path.{◌≡◌, refl, sym, ap, ◌∙◌}
use mathlib.Core.List.{List, [], ◌∷◌}
use Rattle.std.specs.Prelude.{Option, None, Some}
use Prim.Native.Nat.{ℕ, ◌+◌, ◌-◌, ◌≤◌, ◌<◌}
use native.Mathlib.Nat.{sub-zero, sub-eq-zero_of_le}
use native.Mathlib.Numerals.{add-one}
use native.Mathlib.Omega.{arith}
use Rattle.hazard.specs.Search.{first_place, first_of}
use Rattle.hazard.specs.Sets.{Required}
use Rattle.hazard.specs.Verdict.{Verdict, holds_zero, passed, fault_a, fault_c, fault_b, first_fault, fields_of}
use Rattle.hazard.specs.Cover.{Network}
use Rattle.context.specs.declared.context.Context.{Context}
use Rattle.context.specs.Context.{off_in, privileged_of}
use Rattle.cube.proofs.Scan.{left, Places, places_start, places_hit, places_miss, places_end}

-- Of n products those below j hold no zero; `met` is the first illegal intersection among them. A look at a product finds its lowest zero,
-- or the transition that it meets.
pub record Judging (zero meets : ℕ → Option ℕ) (n j : ℕ) (met : Option (ℕ × ℕ)) : Type 0 where
  pub zeros : Places zero n j (first_place zero 0 n)
  pub first : first_place meets 0 n ≡ first_of (met ∷ first_place meets j (n - j) ∷ [])

first_of_last : {A : Type 0} (o : Option A) → o ≡ first_of (o ∷ [])
first_of_last None = refl
first_of_last (Some a) = refl

pub judging_start : (zero meets : ℕ → Option ℕ) (n : ℕ) → Judging zero meets n 0 None
judging_start zero meets n = record { zeros = places_start zero n; first = rw sub-zero (first_of_last (first_place meets 0 n)) }

module _ {zero meets : ℕ → Option ℕ} {n j : ℕ} {met : Option (ℕ × ℕ)} (g : Judging zero meets n j met) where
  pub judging_hit : j < n → {x : ℕ} → zero j ≡ Some x → holds_zero j x ≡ first_fault (first_place zero 0 n) (first_place meets 0 n) None
  judging_hit h e = rw (sym (places_hit g.zeros h e))

  pub judging_miss : j < n → zero j ≡ None → {here : Option ℕ} → here ≡ meets j → {next : Option (ℕ × ℕ)} → next ≡ first_of (met ∷ first_place (λ k. here) j 1 ∷ []) → Judging zero meets n (j + 1) next
  judging_miss h e {here} q {next} r = record { zeros = places_miss g.zeros h e; first = g.first ∙ go met here q next r }
    where
      go : (m : Option (ℕ × ℕ)) (o : Option ℕ) → o ≡ meets j → (k : Option (ℕ × ℕ)) → k ≡ first_of (m ∷ first_place (λ _. o) j 1 ∷ []) → first_of (m ∷ first_place meets j (n - j) ∷ []) ≡ first_of (k ∷ first_place meets (j + 1) (n - (j + 1)) ∷ [])
      go (Some p) o s k t = rw t
      go None None s k t = rw (t, left n j h, sym s, first_place, add-one)
      go None (Some x) s k t = rw (t, left n j h, sym s, first_place)

  pub judging_end : n ≤ j → first_fault None met None ≡ first_fault (first_place zero 0 n) (first_place meets 0 n) None
  judging_end h = go met (first_place zero 0 n) (first_place meets 0 n) (sym (places_end g.zeros h)) (g.first ∙ ap (λ (k : ℕ). first_of (met ∷ first_place meets j k ∷ [])) (sub-eq-zero_of_le h))
    where
      go : (m a c : Option (ℕ × ℕ)) → a ≡ None → c ≡ first_of (m ∷ None ∷ []) → first_fault None m None ≡ first_fault a c None
      go None a c p q = rw (p, q)
      go (Some x) a c p q = rw (p, q)

-- A fault of the products stays the first one, and without one (b) decides.
fault-stays : (a c : Option (ℕ × ℕ)) (b : Option Required) → (first_fault a c None ≡ passed → ⊥) → first_fault a c None ≡ first_fault a c b
fault-stays (Some p) c b h = refl
fault-stays None (Some p) b h = refl
fault-stays None None b h = absurd (h refl)

fault-later : (a c : Option (ℕ × ℕ)) (b : Option Required) → first_fault a c None ≡ passed → first_fault None None b ≡ first_fault a c b
fault-later (Some p) c b e = let q = ap (λ (v : Verdict). (fields_of v).number) e in absurd (omega (arith, q))
fault-later None (Some p) b e = let q = ap (λ (v : Verdict). (fields_of v).number) e in absurd (omega (arith, q))
fault-later None None b e = refl

module _ (k : Context) (rs : List Required) (net : Network) {v : Verdict} (e : v ≡ first_fault (fault_a k.n.count (off_in k) net) (fault_c (privileged_of k) net) None) where
  pub judged_stays : (v ≡ passed → ⊥) → v ≡ first_fault (fault_a k.n.count (off_in k) net) (fault_c (privileged_of k) net) (fault_b rs net)
  judged_stays h = e ∙ fault-stays (fault_a k.n.count (off_in k) net) (fault_c (privileged_of k) net) (fault_b rs net) (λ q. h (e ∙ q))

  pub judged_later : v ≡ passed → {b : Option Required} → b ≡ fault_b rs net → first_fault None None b ≡ first_fault (fault_a k.n.count (off_in k) net) (fault_c (privileged_of k) net) (fault_b rs net)
  judged_later h q = ap (first_fault None None) q ∙ fault-later (fault_a k.n.count (off_in k) net) (fault_c (privileged_of k) net) (fault_b rs net) (sym e ∙ h)
