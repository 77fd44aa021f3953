-- The loop that writes, from the last required cube to the first, each at the place of its first product.
use mathlib.Core.Path.{◌≡◌, refl, sym, ap, ◌∙◌}
use mathlib.Core.Logic.{◌≢◌}
use mathlib.Core.List.{List, [], ◌∷◌}
use Prim.Native.Nat.{ℕ, ◌+◌, ◌≤◌, ◌<◌}
use native.Mathlib.Decide.{ℕ_discrete}
use native.Mathlib.Omega.{arith}
use lib.ListN.{length, get_or, take, set, length-set, length-map, length-take}
use lib.Seq.{get_or-set_same, get_or-set_other, get_or-take, take_at}
use Rattle.std.specs.List.{push}
use Rattle.std.proofs.lemmas.List.{length_push, get_or_push, take-take}
use Rattle.hazard.specs.Limits.{most_required}
use Rattle.cube.specs.Entry.{cube_in, network_in}
use Rattle.choice.specs.Keep.{Lowest, Noted}
use Rattle.choice.proofs.Firsts.{first-covered}

-- The required cubes from k on are written.
pub record Lowering (firsts before lowest : List ℕ) (k : ℕ) : Type 0 where
  pub long : length lowest ≡ length before
  pub low : (i : ℕ) → k ≤ i → i < length firsts → get_or lowest (get_or firsts i 0) 0 ≤ i
  pub same : (i : ℕ) → k ≤ i → i < length firsts → get_or firsts (get_or lowest (get_or firsts i 0) 0) 0 ≡ get_or firsts i 0

pub lowering_start : (firsts lowest : List ℕ) → Lowering firsts lowest lowest (length firsts)
lowering_start firsts lowest = record { long = refl; low = λ i h l. absurd (omega arith); same = λ i h l. absurd (omega arith) }

module _ {firsts before lowest : List ℕ} {k : ℕ} (s : Lowering firsts before lowest (k + 1)) where
  pub lowering_step : get_or firsts k 0 < length before → Lowering firsts before (set lowest (get_or firsts k 0) k) k
  lowering_step l =
      record {
        long = length-set lowest (get_or firsts k 0) k ∙ s.long;
        low = λ i a b. elim (ℕ_discrete (get_or firsts i 0) (get_or firsts k 0)) [
          | yes e ↦ rw (here i e) a
          | no e ↦ rw (other i e) (s.low i (after i a e) b)
        ];
        same = λ i a b. elim (ℕ_discrete (get_or firsts i 0) (get_or firsts k 0)) [
          | yes e ↦ ap (λ (y : ℕ). get_or firsts y 0) (here i e) ∙ sym e
          | no e ↦ ap (λ (y : ℕ). get_or firsts y 0) (other i e) ∙ s.same i (after i a e) b
        ];
      }
    where
      next : List ℕ
      next = set lowest (get_or firsts k 0) k

      here : (i : ℕ) → get_or firsts i 0 ≡ get_or firsts k 0 → get_or next (get_or firsts i 0) 0 ≡ k
      here i e = ap (λ (y : ℕ). get_or next y 0) e ∙ get_or-set_same lowest (get_or firsts k 0) k 0 (omega (arith, s.long))

      other : (i : ℕ) → get_or firsts i 0 ≢ get_or firsts k 0 → get_or next (get_or firsts i 0) 0 ≡ get_or lowest (get_or firsts i 0) 0
      other i e = get_or-set_other lowest (get_or firsts k 0) (get_or firsts i 0) k 0 e

      after : (i : ℕ) → k ≤ i → get_or firsts i 0 ≢ get_or firsts k 0 → k + 1 ≤ i
      after i a e = let ne : i ≢ k = λ q. e (ap (λ (y : ℕ). get_or firsts y 0) q) in omega (arith, ne)

pub lowering_end : {firsts before lowest : List ℕ} → Lowering firsts before lowest 0 → Lowest firsts lowest
lowering_end s = record { low = λ i l. s.low i (omega arith) l; same = λ i l. s.same i (omega arith) l }

-- Each first product is one of no more than the most required cubes.
pub noted-low : {n : ℕ} {required firsts products : List ℕ} → Noted n required firsts products → (i : ℕ) → i < length firsts → get_or firsts i 0 < most_required
noted-low {n} {required} {firsts} {products} s i l =
    let (a, b, c) = first-covered (network_in n products) (cube_in n (get_or required i 0)) (s.each i (omega (arith, s.whole))) in
    omega (arith, a, s.few, s.many, length-map products (cube_in n))

-- What comes from the back of the first entries of a list: the last of them, by its place; the others are left.
pub last_of_first : (all rest next : List ℕ) (x : ℕ) → rest ≡ take (length rest) all → rest ≡ push next x
    → (length rest ≡ length next + 1) × (length next < length all) × (x ≡ get_or all (length next) 0) × (next ≡ take (length next) all)
last_of_first all rest next x e f =
    let m = length next in
    let long : length rest ≡ m + 1 = ap length f ∙ length_push next x in
    let low : m < length all = omega (arith, long, ap length e, length-take (length rest) all) in (
      long,
      low,
      sym (get_or_push next x 0 m refl) ∙ ap (λ (l : List ℕ). get_or l m 0) (sym f ∙ e) ∙ get_or-take (length rest) all m 0 (omega (arith, long)),
      sym (take_at next (x ∷ []) m refl) ∙ ap (take m) (sym f ∙ e) ∙ take-take m (length rest) all (omega (arith, long)),
    )
