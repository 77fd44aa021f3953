-- The values of points by the planes, and the table that they are.
use mathlib.Core.Path.{◌≡◌, refl, sym, ap, ap₂, ◌∙◌, subst, fun_ext}
use mathlib.Core.Bool.{Bool, true, false, not, cond, ◌&&◌, ◌||◌}
use mathlib.Core.List.{List}
use Prim.Native.Nat.{ℕ, zero, suc, ◌+◌, ◌/◌, ◌%◌, ◌^◌, ◌≤◌, ◌<◌}
use native.Mathlib.Omega.{arith}
use native.Mathlib.Decide.{dec_lt}
use lib.Dec.{T, eqb}
use lib.ListN.{length, get_or, replicate, get_or-replicate}
use lib.Seq.{ext_get_or}
use borrow.Author.Tests.{eqb-true, ne_eqb}
use Rattle.hazard.specs.Cube.{bit}
use Rattle.hazard.specs.Transition.{value, off}
use Rattle.hazard.proofs.Test.{is}
use Rattle.cube.specs.PointSet.{in_set}
use Rattle.cube.proofs.WordMask.{all_ones}
use Rattle.points.proofs.Masked.{true-false}
use Rattle.context.specs.declared.planes.Planes.{Planes}
use Rattle.context.specs.Planes.{valued, Plane, Apart}
use Rattle.context.specs.Context.{value_by, values_from, value_at, table_in, DontCares}
use Rattle.context.proofs.PlaneWord.{valued_in, valued_out, plane_off}

-- Sixteen words of ones are all points below 1024.
pub all_in : (x : ℕ) → x < 1024 → in_set (replicate 16 18446744073709551615) x ≡ true
all_in x l = ap (λ (y : ℕ). eqb (bit y (x % 64)) 1) (get_or-replicate 16 (x / 64) 18446744073709551615 0 (omega arith)) ∙ ap (λ (b : ℕ). eqb b 1) (all_ones 64 (x % 64) (omega arith))

-- All points below 1024 without those of both planes.
pub dont_cares : (zeros ones all known : List ℕ) {out : List ℕ} → ((x : ℕ) → x < 1024 → in_set all x ≡ true) → ((x : ℕ) → in_set known x ≡ (in_set all x && not (in_set zeros x)))
    → ((x : ℕ) → in_set out x ≡ (in_set known x && not (in_set ones x))) → DontCares zeros ones out
dont_cares zeros ones all known a k o =
    record { is = λ x l. o x ∙ ap (λ (b : Bool). b && not (in_set ones x)) (k x ∙ ap (λ (b : Bool). b && not (in_set zeros x)) (a x l)) ∙ neither (in_set zeros x) (in_set ones x) }
  where
    neither : (z o : Bool) → ((true && not z) && not o) ≡ eqb (cond z 0 (cond o 1 2)) 2
    neither true o = refl
    neither false true = refl
    neither false false = refl

-- The table has the values of the points.
module _ (zeros ones : List ℕ) where
  values_length : (x m : ℕ) → length (values_from zeros ones x m) ≡ m
  unfolding values_from
  values_length x zero = refl
  values_length x (suc m) = ap suc (values_length (suc x) m)

  values_at : (x m i d : ℕ) → i < m → get_or (values_from zeros ones x m) i d ≡ value_by zeros ones (x + i)
  unfolding values_from
  values_at x zero i d l = absurd (omega arith)
  values_at x (suc m) zero d l = let e : x + 0 ≡ x = omega arith in ap (value_by zeros ones) (sym e)
  values_at x (suc m) (suc i) d l = let e : suc x + i ≡ x + suc i = omega arith in values_at (suc x) m i d (omega arith) ∙ ap (value_by zeros ones) e

pub table-length : (p : Planes) → length (table_in p) ≡ 2 ^ p.n.count
table-length p = values_length p.zeros.words p.ones.words 0 (2 ^ p.n.count)

pub table-value : (p : Planes) (x : ℕ) → x < 2 ^ p.n.count → value (table_in p) x ≡ value_at p x
table-value p x l = let e : 0 + x ≡ x = omega arith in values_at p.zeros.words p.ones.words 0 (2 ^ p.n.count) x 2 l ∙ ap (value_at p) e

-- A value by its two bits.
zero_bit : (z o : Bool) → z ≡ eqb (cond z 0 (cond o 1 2)) 0
zero_bit true o = refl
zero_bit false true = refl
zero_bit false false = refl

one_bit : (z o : Bool) → (T z → o ≡ false) → o ≡ eqb (cond z 0 (cond o 1 2)) 1
one_bit true o h = h tt
one_bit false true h = refl
one_bit false false h = refl

either_false : (z o : Bool) → (z || o) ≡ false → (z ≡ false) × (o ≡ false)
either_false true o e = absurd (true-false e)
either_false false o e = (refl, e)

-- The planes are those of that table.
module _ (p : Planes) where
  plane_of : (v : ℕ) (words : List ℕ) → ((x : ℕ) → in_set words x ≡ eqb (value_at p x) v) → ((x : ℕ) → 2 ^ p.n.count ≤ x → in_set words x ≡ false) → Plane (table_in p) v words
  plane_of v words h out = record { is = λ x. go x (dec_lt x (2 ^ p.n.count)) }
    where
      go : (x : ℕ) → Dec (x < 2 ^ p.n.count) → in_set words x ≡ valued (table_in p) v x
      go x (yes l) = h x ∙ ap (λ (y : ℕ). eqb y v) (sym (table-value p x l)) ∙ sym (valued_in (table_in p) v x (omega (arith, table-length p)))
      go x (no l) = out x (omega (arith, l)) ∙ sym (valued_out (table_in p) v x (omega (arith, l, table-length p)))

  none-past : (x : ℕ) → 2 ^ p.n.count ≤ x → (in_set p.zeros.words x ≡ false) × (in_set p.ones.words x ≡ false)
  none-past x l = either_false (in_set p.zeros.words x) (in_set p.ones.words x) (p.are.past x l)

  pub plane_zeros : Plane (table_in p) 0 p.zeros.words
  plane_zeros = plane_of 0 p.zeros.words (λ x. zero_bit (in_set p.zeros.words x) (in_set p.ones.words x)) (λ x l. (none-past x l).0)

  pub plane_ones : Plane (table_in p) 1 p.ones.words
  plane_ones = plane_of 1 p.ones.words (λ x. one_bit (in_set p.zeros.words x) (in_set p.ones.words x) (p.are.apart x)) (λ x l. (none-past x l).1)

  pub off-table : in_set p.zeros.words ≡ off (table_in p)
  off-table = fun_ext (λ x. plane_zeros.is x ∙ plane_off (table_in p) x)

-- A table whose planes they are is that table.
module _ {f : List ℕ} (p : Planes) (z : Plane f 0 p.zeros.words) (o : Plane f 1 p.ones.words) (whole : length f ≡ 2 ^ p.n.count) where
  same-value : ((x : ℕ) → x < 2 ^ p.n.count → value f x ≤ 2) → (x : ℕ) → x < 2 ^ p.n.count → value_at p x ≡ value f x
  same-value few x l =
      ap₂ (λ (a b : Bool). cond a 0 (cond b 1 2)) (z.is x ∙ valued_in f 0 x (omega (arith, whole))) (o.is x ∙ valued_in f 1 x (omega (arith, whole))) ∙ by_value (value f x) (few x l)
    where
      by_value : (v : ℕ) → v ≤ 2 → cond (eqb v 0) 0 (cond (eqb v 1) 1 2) ≡ v
      by_value zero h = refl
      by_value (suc zero) h = refl
      by_value (suc (suc zero)) h = refl
      by_value (suc (suc (suc v))) h = absurd (omega arith)

  pub table_is : ((x : ℕ) → x < 2 ^ p.n.count → value f x ≤ 2) → table_in p ≡ f
  table_is few = ext_get_or 2 (table_in p) f (table-length p ∙ sym whole) (λ x l. let i : x < 2 ^ p.n.count = omega (arith, l, table-length p) in table-value p x i ∙ same-value few x i)

-- The planes of a table are apart, and have none past its points.
pub planes_apart : {f zeros ones : List ℕ} {n : ℕ} → Plane f 0 zeros → Plane f 1 ones → length f ≤ 2 ^ n → Apart n zeros ones
planes_apart {f} {zeros} {ones} z o few =
    record {
      apart = λ x t. o.is x ∙ not_both x (dec_lt x (length f)) (subst T (z.is x) t);
      past = λ x l. ap₂ ◌||◌ (z.is x ∙ valued_out f 0 x (omega (arith, l, few))) (o.is x ∙ valued_out f 1 x (omega (arith, l, few)));
    }
  where
    differ : (v : ℕ) → T (eqb v 0) → eqb v 1 ≡ false
    differ v t = let z = eqb-true v 0 (is {b = eqb v 0} t) in ne_eqb v 1 (λ e. omega (arith, e, z))

    not_both : (x : ℕ) → Dec (x < length f) → T (valued f 0 x) → valued f 1 x ≡ false
    not_both x (yes l) t = valued_in f 1 x l ∙ differ (value f x) (subst T (valued_in f 0 x l) t)
    not_both x (no l) t = valued_out f 1 x (omega (arith, l))
