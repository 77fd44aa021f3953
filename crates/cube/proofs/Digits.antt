-- A cube's digits, one by one, as the bytes of a product.
use mathlib.Core.Path.{◌≡◌, refl, sym, ap, ap₂, ◌∙◌}
use mathlib.Core.Bool.{Bool, true, false, cond}
use mathlib.Core.List.{List, ◌∷◌}
use Prim.Native.Nat.{ℕ, zero, suc, ◌+◌, ◌-◌, ◌/◌, ◌%◌, ◌^◌, ◌≤◌, ◌<◌}
use native.Mathlib.Nat.{pow-suc, le_of_suc-le-suc, not-suc-le-zero, sub_self}
use native.Mathlib.Numerals.{add-one}
use native.Mathlib.Omega.{arith}
use lib.Dec.{eqb}
use lib.ListN.{length, get_or, take, drop, drop_of_length-le, set}
use lib.Seq.{drop-cons, take_all}
use Rattle.std.proofs.lemmas.List.{take_more, take_more_set}
use lib.Bits.{bit_and, and_le_r}
use lib.Pow.{pow_pos, pow_mono}
use Rattle.hazard.specs.Cube.{bit}
use Rattle.hazard.proofs.Cube.{Digits, nil, cons}
use Rattle.hazard.proofs.Point.{bit-zero, bit-suc}
use Rattle.cube.specs.Mask.{digit, digits_of, Stands}
use Rattle.cube.specs.declared.mask.Cube.{Cube}
use Rattle.cube.proofs.Bits.{and_half, and_last, by_digits}

pub length_digits : (n care value : ℕ) → length (digits_of n care value) ≡ n
length_digits zero care value = refl
length_digits (suc n) care value = ap suc (length_digits n (care / 2) (value / 2))

pub digit_at_lem : (n care value i : ℕ) → i < n → get_or (digits_of n care value) i 0 ≡ digit (bit care i) (bit value i)
digit_at_lem zero care value i h = absurd (not-suc-le-zero h)
digit_at_lem (suc n) care value zero h = ap₂ digit (sym (bit-zero care)) (sym (bit-zero value))
digit_at_lem (suc n) care value (suc i) h = digit_at_lem n (care / 2) (value / 2) i (le_of_suc-le-suc h) ∙ ap₂ digit (sym (bit-suc care i)) (sym (bit-suc value i))

-- Masks always stand for a cube of n inputs.
digit-small : (care value : ℕ) → digit (care % 2) (value % 2) ≤ 2
digit-small care value = go (eqb (care % 2) 0)
  where
    go : (b : Bool) → cond b 2 (value % 2) ≤ 2
    go true = omega arith
    go false = omega arith

pub masks_digits : (n care value : ℕ) → Digits n (digits_of n care value)
masks_digits zero care value = nil
masks_digits (suc n) care value = cons (digit-small care value) (masks_digits n (care / 2) (value / 2))

-- One input more, before the others.
pub stands_cons : (k l b y : ℕ) {m : ℕ} {c : Cube} {ds : List ℕ} → Stands m c ds
    → k / 2 ≡ c.care → k % 2 ≡ b → l / 2 ≡ c.value → l % 2 ≡ y → bit_and y b ≡ y
    → Stands (m + 1) (record { care = k; value = l }) (digit b y ∷ ds)
stands_cons k l b y {m} {c} {ds} s ka kb lx ly e =
    record {
      fits = record {
        small = rw (add-one, pow-suc) (omega (arith, s.fits.small));
        clean = by_digits (and_half l k ∙ rw (ka, lx) s.fits.clean) (and_last l k ∙ rw (kb, ly) e);
      };
      is = rw (add-one, ka, kb, lx, ly) (ap (λ (t : List ℕ). digit b y ∷ t) s.is);
    }

pub stands_none : (l : List ℕ) → Stands (length l - length l) (record { care = 0; value = 0 }) (drop (length l) l)
stands_none l =
    record {
      fits = record { small = pow_pos (length l - length l); clean = refl };
      is = rw (sub_self, drop_of_length-le l {i = length l} (omega arith));
    }

pub stands_small : {m : ℕ} {c : Cube} {ds : List ℕ} → Stands m c ds → m ≤ 10 → (c.care < 2 ^ 15) × (c.value < 2 ^ 15)
stands_small {m} {c} s h =
    let p = pow_mono {j = 10} h in
    let v : c.value ≤ c.care = rw s.fits.clean at (and_le_r c.value c.care) in
    (omega (arith, p, s.fits.small), omega (arith, p, s.fits.small))

pub product_step : (l : List ℕ) (i : ℕ) {c : Cube} → 0 < i → i ≤ length l
    → Stands (length l - i + 1) c (get_or l (i - 1) 0 ∷ drop i l) → Stands (length l - (i - 1)) c (drop (i - 1) l)
product_step l i h g s =
    let e : length l - (i - 1) ≡ length l - i + 1 = omega arith in
    let f : i - 1 + 1 ≡ i = omega arith in
    rw (drop-cons l (i - 1) 0 (omega arith), ← add-one (i - 1), f, e) s

-- A turn of the loop that writes the digits.
pub write_step : (out : List ℕ) {n : ℕ} → length out ≡ n → (care value i : ℕ) → i < n → take i out ≡ take i (digits_of n care value)
    → take (i + 1) (set out i (digit (bit care i) (bit value i))) ≡ take (i + 1) (digits_of n care value)
write_step out {n} e care value i h s =
    take_more_set out i _ (omega arith)
    ∙ rw (s, ← digit_at_lem n care value i h) (sym (take_more (digits_of n care value) i 0 (rw length_digits h)))

-- All of them written.
pub written : (out : List ℕ) (n care value : ℕ) {i : ℕ} → length out ≡ n → n ≤ i → take i out ≡ take i (digits_of n care value) → out ≡ digits_of n care value
written out n care value {i} e h s =
    sym (take_all _ out (omega arith)) ∙ s ∙ take_all _ (digits_of n care value) (rw length_digits h)
