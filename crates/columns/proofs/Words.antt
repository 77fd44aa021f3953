-- The words of one input, bit by bit.
use mathlib.Core.Path.{◌≡◌, refl, ap, ap₂, ◌∙◌}
use mathlib.Core.Bool.{Bool, ◌||◌}
use mathlib.Core.List.{List}
use Prim.Native.Nat.{ℕ, ◌+◌, ◌-◌, ◌/◌, ◌^◌, ◌≤◌, ◌<◌}
use native.Mathlib.Omega.{arith}
use lib.Dec.{eqb}
use lib.Bits.{bit_and, bit_xor, and_lt, xor_lt}
use lib.ListN.{length, get_or}
use Rattle.std.proofs.Common.{w64}
use Rattle.std.specs.Int.{bit_not}
use Rattle.std.proofs.lemmas.Nat.Bits.{bit_at_not}
use Rattle.hazard.specs.Cube.{bit, fits}
use Rattle.cube.specs.Mask.{digit}
use Rattle.cube.specs.Entry.{point_in, value_bit, care_bit, point_bit}
use Rattle.cube.proofs.Bits.{bit_case2}
use Rattle.cube.proofs.WordMask.{and-bits, xor-bits}
use Rattle.cube.proofs.Fields.{value-bits, care_bits, point-bits}
use Rattle.columns.specs.Column.{column_of}
use Rattle.columns.specs.Relation.{digit_in}
use Rattle.columns.specs.Allowing.{Allowing, DigitsAt}
use Rattle.columns.specs.declared.relation.Allowed.{Allowed}
use Rattle.columns.proofs.ColumnBits.{column_bit}
use Rattle.columns.proofs.Ones.{ones_bit}

-- The literals 0, from the columns' bits.
abbrev zeros : ℕ → ℕ → ℕ
zeros care value = bit_xor care (bit_and care value)

zeros-bit : (care value k : ℕ) → bit (zeros care value) k ≡ zeros (bit care k) (bit value k)
zeros-bit care value k = xor-bits care (bit_and care value) k ∙ ap (bit_xor (bit care k)) (and-bits care value k)

zeros-lt : (care value : ℕ) → care < 2 ^ 64 → value < 2 ^ 64 → zeros care value < 2 ^ 64
zeros-lt care value c v = xor_lt 64 care (bit_and care value) c (and_lt 64 care value c v)

-- A bit of the complement.
not-bit : (x k : ℕ) → x < 2 ^ 64 → k < 64 → bit (bit_not w64 x) k ≡ 1 - bit x k
not-bit x k s h = bit_at_not w64 x k s h

module _ (care value : ℕ) where
  -- A bit that the columns' bits decide, by their four values.
  by_bits : (b k : ℕ) (f : ℕ → ℕ → ℕ) (test : ℕ → Bool) → b ≡ f (bit care k) (bit value k)
      → eqb (f 0 0) 1 ≡ test 2 → eqb (f 0 1) 1 ≡ test 2 → eqb (f 1 0) 1 ≡ test 0 → eqb (f 1 1) 1 ≡ test 1
      → eqb b 1 ≡ test (digit (bit care k) (bit value k))
  by_bits b k f test e p q s t =
      ap (λ (y : ℕ). eqb y 1) e ∙ bit_case2 (λ c v. eqb (f c v) 1 ≡ test (digit c v)) p q s t (care / 2 ^ k) (value / 2 ^ k)

  pub inside_allowing : Allowing (λ e d. fits e d) care value (record { zero = zeros care value; one = bit_and care value; absent = 18446744073709551615 })
  inside_allowing =
      record {
        zero' = λ k h. by_bits (bit (zeros care value) k) k zeros (λ e. fits e 0) (zeros-bit care value k) refl refl refl refl;
        one' = λ k h. by_bits (bit (bit_and care value) k) k bit_and (λ e. fits e 1) (and-bits care value k) refl refl refl refl;
        absent' = λ k h. by_bits (bit 18446744073709551615 k) k (λ c v. 1) (λ e. fits e 2) (ones_bit 64 k h) refl refl refl refl;
      }

  module _ (c : care < 2 ^ 64) (v : value < 2 ^ 64) where
    no_one : (k : ℕ) → k < 64 → eqb (bit (bit_not w64 (bit_and care value)) k) 1 ≡ fits 0 (digit (bit care k) (bit value k))
    no_one k h =
        by_bits (bit (bit_not w64 (bit_and care value)) k) k (λ c v. 1 - bit_and c v) (λ e. fits 0 e)
        (not-bit (bit_and care value) k (and_lt 64 care value c v) h ∙ ap (λ (y : ℕ). 1 - y) (and-bits care value k)) refl refl refl refl

    no_zero : (k : ℕ) → k < 64 → eqb (bit (bit_not w64 (zeros care value)) k) 1 ≡ fits 1 (digit (bit care k) (bit value k))
    no_zero k h =
        by_bits (bit (bit_not w64 (zeros care value)) k) k (λ c v. 1 - zeros c v) (λ e. fits 1 e)
        (not-bit (zeros care value) k (zeros-lt care value c v) h ∙ ap (λ (y : ℕ). 1 - y) (zeros-bit care value k)) refl refl refl refl

    pub meeting_allowing : Allowing (λ e d. eqb d 2 || fits d e) care value
        (record { zero = bit_not w64 (bit_and care value); one = bit_not w64 (zeros care value); absent = 18446744073709551615 })
    meeting_allowing = record { zero' = no_one; one' = no_zero; absent' = inside_allowing.absent' }

  -- The digits 0 and 1 of rows that contain the cube are those of rows that meet it.
  pub containing_allowing : care < 2 ^ 64 → {r : Allowed} → Allowing (λ e d. eqb d 2 || fits d e) care value r
      → Allowing (λ e d. fits d e) care value (record { zero = r.zero; one = r.one; absent = bit_not w64 care })
  containing_allowing c s =
      record {
        zero' = s.zero';
        one' = s.one';
        absent' = λ k h. by_bits (bit (bit_not w64 care) k) k (λ c v. 1 - c) (λ e. fits 2 e) (not-bit care k c h) refl refl refl refl;
      }

-- The digits of the rows, from the columns of their words.
module _ (rows : List ℕ) {i : ℕ} (h : i < 10) where
  pub digit_rows : {care value : ℕ} → care ≡ column_of (care_bit + i) rows → value ≡ column_of (value_bit + i) rows → DigitsAt (λ w. digit_in w i) rows care value
  digit_rows p q =
      record {
        digits = λ k l. ap₂ digit
            (ap (λ (y : ℕ). bit y k) p ∙ column_bit (care_bit + i) rows k l ∙ care_bits (get_or rows k 0) i (omega arith))
            (ap (λ (y : ℕ). bit y k) q ∙ column_bit (value_bit + i) rows k l ∙ value-bits (get_or rows k 0) i (omega arith));
      }

  pub point_rows : {value : ℕ} → length rows ≤ 64 → value ≡ column_of (point_bit + i) rows → DigitsAt (λ w. bit (point_in w) i) rows 18446744073709551615 value
  point_rows m q =
      record {
        digits = λ k l. ap₂ digit
            (ones_bit 64 k (omega arith))
            (ap (λ (y : ℕ). bit y k) q ∙ column_bit (point_bit + i) rows k l ∙ point-bits (get_or rows k 0) i (omega arith));
      }
