-- One pass of raising ends at a dhf-prime.
use mathlib.Core.Path.{◌≡◌, refl}
use mathlib.Core.Bool.{Bool, true, false, cond}
use mathlib.Core.List.{List, [], ◌∷◌}
use Prim.Native.Nat.{ℕ, zero, suc, ◌+◌, ◌≤◌, ◌<◌}
use native.Mathlib.Omega.{arith}
use native.Mathlib.Decide.{ℕ_discrete}
use lib.Dec.{eqb, eqb→eq}
use lib.ListN.{get_or, set}
use Rattle.std.specs.Prelude.{None}
use Rattle.hazard.specs.Cube.{Cube, supercube}
use Rattle.hazard.specs.Sets.{Privileged}
use Rattle.hazard.specs.Implicant.{lowest_zero}
use Rattle.hazard.specs.Growth.{Growth, Legal, Blocked, grow}
use Rattle.hazard.specs.Expansion.{grown_or, raise, expand_from, expand, absorb}
use Rattle.hazard.proofs.Test.{so}
use Rattle.hazard.proofs.Cube.{Digits, Inside, supercube-digits, inside-left, inside_refl, inside_trans, inside_back, set-digits, inside-set, set-inside, free-inside, free-set}
use Rattle.hazard.proofs.Implicant.{Dhf, Wide, Prime}
use Rattle.hazard.proofs.Growth.{Grows, Ends, legal, blocked, legal_clean, grow-runs, grow_ends, blocked_none}

module _ (n : ℕ) (off : ℕ → Bool) (vs : List Privileged) (wide : Wide n vs) where
  -- Raising a literal of a cube without a zero leaves one without a zero.
  pub raise_clean : (p : Cube) (i : ℕ) → Digits n p → lowest_zero n off p ≡ None → lowest_zero n off (raise n off vs p i) ≡ None
  raise_clean p i w e = go (eqb (get_or p i 0) 2) (grow n off vs (set p i 2)) (grow-runs n off vs wide (set-digits i w))
    where
      go : (b : Bool) (g : Growth) → Grows n off vs (set p i 2) 0 g → lowest_zero n off (cond b p (grown_or p g)) ≡ None
      go true g r = e
      go false (Legal d t) r = legal_clean n off vs r
      go false (Blocked z t) r = e

  -- p' is a dhf-implicant around p; and if a dhf-implicant around p' frees one of the m inputs from i on, so does p'.
  pub record Raised (i m : ℕ) (p p' : Cube) : Type 0 where
    pub dhf : Dhf n off vs p'
    pub around : Inside p p'
    pub most : (q : Cube) → Dhf n off vs q → Inside p' q → (j : ℕ) → i ≤ j → j < i + m → get_or q j 2 ≡ 2 → get_or p' j 2 ≡ 2

  pub raise-is : {p : Cube} (i : ℕ) → Dhf n off vs p → Raised i 1 p (raise n off vs p i)
  raise-is {p} i d = first (eqb (get_or p i 0) 2) refl
    where
      absent : (p : Cube) (i : ℕ) → get_or p i 0 ≡ 2 → get_or p i 2 ≡ 2
      absent [] i e = refl
      absent (x ∷ xs) zero e = e
      absent (x ∷ xs) (suc i) e = absent xs i e

      go : (g : Growth) → Ends n off vs (set p i 2) g → Raised i 1 p (grown_or p g)
      go (Legal c s) (legal h k m) = record { dhf = h; around = inside_trans (inside-set p i) k; most = λ q a b j x y e. let z : i ≡ j = omega arith in rw (← z) (free-inside i k (free-set p i)) }
      go (Blocked z s) (blocked k m b h o) = record {
        dhf = d;
        around = inside_refl p;
        most = λ q a t j x y e. let w : j ≡ i = omega arith in absurd (blocked_none n off vs wide (blocked {z = z} {s = s} k m b h o) q a (set-inside i t (rw w at e)));
      }

      first : (b : Bool) → eqb (get_or p i 0) 2 ≡ b → Raised i 1 p (cond b p (grown_or p (grow n off vs (set p i 2))))
      first true e = record { dhf = d; around = inside_refl p; most = λ q a t j x y f. let w : j ≡ i = omega arith in rw w (absent p i (eqb→eq (get_or p i 0) 2 (so e))) }
      first false e = go (grow n off vs (set p i 2)) (grow_ends n off vs wide (set-digits i d.digits))

  expand_from-is : {p : Cube} (i m : ℕ) → Dhf n off vs p → Raised i m p (expand_from n off vs i m p)
  expand_from-is {p = p} i zero d = record { dhf = d; around = inside_refl p; most = λ q a b j x y. absurd (omega arith) }
  expand_from-is {p = p} i (suc m) d =
      let r = raise-is i d in
      let t = expand_from-is {p = raise n off vs p i} (suc i) m r.dhf in
      record {
        dhf = t.dhf;
        around = inside_trans r.around t.around;
        most = λ q a b j x y e. elim (ℕ_discrete i j) [
          | yes k ↦ free-inside j t.around (r.most q a (inside_trans t.around b) j (omega arith) (omega arith) e)
          | no k ↦ t.most q a b j (omega arith) (omega arith) e
        ];
      }

  pub expand-prime : {p : Cube} → Dhf n off vs p → Prime n off vs (expand n off vs p)
  expand-prime d =
      let t = expand_from-is 0 n d in
      record { dhf = t.dhf; maximal = λ q a b. inside_back t.dhf.digits b (λ i h. t.most q a b i (omega arith) (omega arith)) }

  pub expand-around : {p : Cube} → Dhf n off vs p → Inside p (expand n off vs p)
  expand-around d = (expand_from-is 0 n d).around

  -- What is absorbed leaves a dhf-implicant around the cube.
  pub absorb-is : {p r : Cube} → Dhf n off vs p → Digits n r → Dhf n off vs (absorb n off vs p r) × Inside p (absorb n off vs p r)
  absorb-is {p} {r} d w = go (grow n off vs (supercube p r)) (grow_ends n off vs wide (supercube-digits d.digits w))
    where
      go : (g : Growth) → Ends n off vs (supercube p r) g → Dhf n off vs (grown_or p g) × Inside p (grown_or p g)
      go (Legal c s) (legal h k m) = (h, inside_trans (inside-left d.digits w) k)
      go (Blocked z s) v = (d, inside_refl p)
