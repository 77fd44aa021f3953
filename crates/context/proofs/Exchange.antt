-- Exchanging the two planes exchanges 0 and 1: the planes of the complement.
use mathlib.Core.Path.{◌≡◌, refl, ap, ap₂, ◌∙◌}
use mathlib.Core.Bool.{Bool, true, false, cond, ◌||◌}
use mathlib.Core.List.{List, ◌∷◌, map}
use Prim.Native.Nat.{ℕ, zero, suc, ◌^◌}
use lib.Dec.{T, eqb}
use Rattle.cube.specs.PointSet.{in_set}
use Rattle.points.proofs.Masked.{true-false}
use Rattle.context.specs.declared.planes.Planes.{Planes}
use Rattle.context.specs.Planes.{Apart}
use Rattle.context.specs.Context.{values_from, table_in}

-- 1 for 0, 0 for 1; a don't care stays.
pub opposite : ℕ → ℕ
opposite v = cond (eqb v 0) 1 (cond (eqb v 1) 0 v)

other_plane : (z o : Bool) → (T z → o ≡ false) → T o → z ≡ false
other_plane true o h t = absurd (so_false o (h tt) t)
  where
    so_false : (b : Bool) → b ≡ false → T b → ⊥
    so_false true e t = true-false e
    so_false false e t = t
other_plane false o h t = refl

other-value : (z o : Bool) → (T z → o ≡ false) → cond o 0 (cond z 1 2) ≡ opposite (cond z 0 (cond o 1 2))
unfolding opposite
other-value true true h = absurd (true-false (h tt))
other-value true false h = refl
other-value false true h = refl
other-value false false h = refl

either : (z o : Bool) → (o || z) ≡ (z || o)
either true true = refl
either true false = refl
either false true = refl
either false false = refl

module _ (zeros ones : List ℕ) (apart : (x : ℕ) → T (in_set zeros x) → in_set ones x ≡ false) where
  values_exchanged : (x m : ℕ) → values_from ones zeros x m ≡ map opposite (values_from zeros ones x m)
  unfolding values_from
  values_exchanged x zero = refl
  values_exchanged x (suc m) = ap₂ (λ (v : ℕ) (l : List ℕ). v ∷ l) (other-value (in_set zeros x) (in_set ones x) (apart x)) (values_exchanged (suc x) m)

pub exchanged_planes : {n : ℕ} {zeros ones : List ℕ} → Apart n zeros ones → Apart n ones zeros
exchanged_planes {n} {zeros} {ones} p =
    record {
      apart = λ x. other_plane (in_set zeros x) (in_set ones x) (p.apart x);
      past = λ x l. either (in_set zeros x) (in_set ones x) ∙ p.past x l;
    }

pub exchanged_table : (q p : Planes) → q.n.count ≡ p.n.count → q.zeros.words ≡ p.ones.words → q.ones.words ≡ p.zeros.words → table_in q ≡ map opposite (table_in p)
exchanged_table q p n z o =
    ap₂ (λ (a b : List ℕ). values_from a b 0 (2 ^ q.n.count)) z o ∙ ap (λ (m : ℕ). values_from p.ones.words p.zeros.words 0 (2 ^ m)) n
    ∙ values_exchanged p.zeros.words p.ones.words p.are.apart 0 (2 ^ p.n.count)
