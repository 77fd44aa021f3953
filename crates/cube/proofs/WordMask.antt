-- The bits of a cube's mask, and the words that the cube has points in.
use mathlib.Core.Path.{◌≡◌, refl, sym, ap, ◌∙◌, subst}
use mathlib.Core.Bool.{not, ◌&&◌, ◌||◌}
use Prim.Native.Nat.{ℕ, zero, suc, ◌+◌, ◌-◌, ◌*◌, ◌/◌, ◌%◌, ◌^◌, ◌≤◌, ◌<◌}
use native.Mathlib.Nat.{not-suc-le-zero, le_of_suc-le-suc, mod-lt, mod-eq_of_lt, zero-div, zero-add, add-zero, mod-one, one-mul, mul-one, zero-mul, add_comm, add-mul, mul_assoc, mul_comm, mul-le-mul_left, pow-suc, lt_of_lt_of_le, lt_of_le_of_lt}
use native.Mathlib.Decide.{ℕ_discrete}
use native.Mathlib.Numerals.{add-one}
use native.Mathlib.Omega.{arith}
use lib.Dec.{eqb}
use lib.Arith.{digits_lt}
use lib.Bits.{bit_and, bit_or, bit_xor, and_comm, and_shr, or_shr, xor_shr, or_shifted_r, and_zero_r, and_le_r, or_self, xor_self, xor_zero_r, xor_lt}
use lib.Pow.{pow_pos, pow-add, pow_mono, shl_exact, shr-shr, high, low, field, mod-mod-pow, mod-pow-add}
use borrow.Author.Tests.{ne_eqb}
use Rattle.hazard.specs.Cube.{bit}
use Rattle.hazard.proofs.Point.{bit-zero, bit-suc}
use Rattle.cube.specs.Mask.{Clean}
use Rattle.cube.specs.WordMask.{differs, Marks, Words}
use Rattle.cube.specs.declared.mask.Cube.{Cube}
use Rattle.cube.proofs.Bits.{bit_case2, and_last, or_last, xor_last}
use Rattle.cube.proofs.Points.{and-bit}

-- Bits of a number of two parts.
pub high_bit : (a k r : ℕ) {b : ℕ} → b < 2 ^ k → bit (a * 2 ^ k + b) (k + r) ≡ bit a r
high_bit a k r {b} h = ap (λ (y : ℕ). y % 2) (sym (shr-shr (a * 2 ^ k + b) k r) ∙ ap (λ (y : ℕ). y / 2 ^ r) (high a k h))

pub mod-bit : (y j r : ℕ) → bit (y % 2 ^ (suc j + r)) r ≡ bit y r
mod-bit y j r = ap (λ (z : ℕ). z % 2) (field y (suc j) r) ∙ (rw (add-one j) at (mod-mod-pow (y / 2 ^ r) j 1))

pub low_bit : (a k r : ℕ) {b : ℕ} → r < k → b < 2 ^ k → bit (a * 2 ^ k + b) r ≡ bit b r
low_bit a k r {b} l h =
    let e : k ≡ suc (k - (r + 1)) + r = omega arith in
    sym (subst (λ (j : ℕ). bit ((a * 2 ^ k + b) % 2 ^ j) r ≡ bit (a * 2 ^ k + b) r) (sym e) (mod-bit (a * 2 ^ k + b) (k - (r + 1)) r))
    ∙ ap (λ (y : ℕ). bit y r) (low a k h)

-- A number that is 0 has no bit.
pub no_bit : (a i : ℕ) → a ≡ 0 → bit a i ≡ 0
no_bit a i e = ap (λ (y : ℕ). bit y i) e ∙ ap (λ (y : ℕ). y % 2) (zero-div (2 ^ i))

pub and-bits : (a b i : ℕ) → bit (bit_and a b) i ≡ bit_and (bit a i) (bit b i)
and-bits a b i = ap (λ (y : ℕ). y % 2) (and_shr a b i) ∙ and_last (a / 2 ^ i) (b / 2 ^ i)

pub or-bits : (a b i : ℕ) → bit (bit_or a b) i ≡ bit_or (bit a i) (bit b i)
or-bits a b i = ap (λ (y : ℕ). y % 2) (or_shr a b i) ∙ or_last (a / 2 ^ i) (b / 2 ^ i)

pub xor-bits : (a b i : ℕ) → bit (bit_xor a b) i ≡ bit_xor (bit a i) (bit b i)
xor-bits a b i = ap (λ (y : ℕ). y % 2) (xor_shr a b i) ∙ xor_last (a / 2 ^ i) (b / 2 ^ i)

-- Every bit of 2^n - 1 below n is 1.
pub all_ones : (n k : ℕ) → k < n → bit (2 ^ n - 1) k ≡ 1
all_ones zero k h = absurd (not-suc-le-zero h)
all_ones (suc n) zero h = bit-zero (2 ^ suc n - 1) ∙ omega (arith, pow-suc 2 n, pow_pos n)
all_ones (suc n) (suc k) h =
    let e : (2 ^ suc n - 1) / 2 ≡ 2 ^ n - 1 = omega (arith, pow-suc 2 n, pow_pos n) in
    bit-suc (2 ^ suc n - 1) k ∙ ap (λ (y : ℕ). bit y k) e ∙ all_ones n k (le_of_suc-le-suc h)

pub not-bit : (x k : ℕ) → k < 64 → bit (bit_xor 18446744073709551615 x) k ≡ bit_xor 1 (bit x k)
not-bit x k h = xor-bits 18446744073709551615 x k ∙ ap (λ (y : ℕ). bit_xor y (bit x k)) (all_ones 64 k h)

-- The bit of a point, with one input more.
next_index : (x i : ℕ) → x % 2 ^ (i + 1) ≡ bit x i * 2 ^ i + x % 2 ^ i
next_index x i = ap (λ (j : ℕ). x % 2 ^ j) (add_comm i 1) ∙ mod-pow-add x 1 i

index_zero : (x i : ℕ) → bit x i ≡ 0 → x % 2 ^ (i + 1) ≡ x % 2 ^ i
index_zero x i e = next_index x i ∙ ap (λ (b : ℕ). b * 2 ^ i + x % 2 ^ i) e ∙ ap (λ (b : ℕ). b + x % 2 ^ i) (zero-mul (2 ^ i)) ∙ zero-add (x % 2 ^ i)

index_one : (x i : ℕ) → bit x i ≡ 1 → x % 2 ^ (i + 1) ≡ 2 ^ i + x % 2 ^ i
index_one x i e = next_index x i ∙ ap (λ (b : ℕ). b * 2 ^ i + x % 2 ^ i) e ∙ ap (λ (b : ℕ). b + x % 2 ^ i) (one-mul (2 ^ i))

twice : (i : ℕ) → 2 ^ (i + 1) ≡ 2 ^ i + 2 ^ i
twice i = omega (arith, ap (λ (j : ℕ). 2 ^ j) (add-one i) ∙ pow-suc 2 i)

-- The bit of a point in a mask of two halves, for the values 0 and 1 of the input.
module _ (a b x i : ℕ) (h : b < 2 ^ (2 ^ i)) where
  lower_bit : bit x i ≡ 0 → bit (a * 2 ^ (2 ^ i) + b) (x % 2 ^ (i + 1)) ≡ bit b (x % 2 ^ i)
  lower_bit e = ap (bit (a * 2 ^ (2 ^ i) + b)) (index_zero x i e) ∙ low_bit a (2 ^ i) (x % 2 ^ i) (mod-lt x (pow_pos i)) h

  upper_bit : bit x i ≡ 1 → bit (a * 2 ^ (2 ^ i) + b) (x % 2 ^ (i + 1)) ≡ bit a (x % 2 ^ i)
  upper_bit e = ap (bit (a * 2 ^ (2 ^ i) + b)) (index_one x i e) ∙ high_bit a (2 ^ i) (x % 2 ^ i) h

-- Where a point differs at input i.
differs-bit : (c : Cube) (x i : ℕ) → bit (differs c x) i ≡ bit_and (bit_xor (bit x i) (bit c.value i)) (bit c.care i)
differs-bit c x i = and-bits (bit_xor x c.value) c.care i ∙ ap (λ (y : ℕ). bit_and y (bit c.care i)) (xor-bits x c.value i)

module _ {c : Cube} {i m : ℕ} (s : Marks c i m) where
  -- The input's value agrees, and the bit is that of the inputs below; or it does not, and the bit is 0.
  kept : {b : ℕ} (x : ℕ) → bit (differs c x) i ≡ 0 → b ≡ bit m (x % 2 ^ i) → eqb b 1 ≡ eqb (differs c x % 2 ^ (i + 1)) 0
  kept x d e = ap (λ (y : ℕ). eqb y 1) e ∙ s.marks x ∙ ap (λ (y : ℕ). eqb y 0) (sym (index_zero (differs c x) i d))

  lost : {b : ℕ} (x : ℕ) → bit (differs c x) i ≡ 1 → b ≡ 0 → eqb b 1 ≡ eqb (differs c x % 2 ^ (i + 1)) 0
  lost x d e = ap (λ (y : ℕ). eqb y 1) e ∙ sym (ne_eqb (differs c x % 2 ^ (i + 1)) 0 (λ z. omega (arith, z, index_one (differs c x) i d, pow_pos i)))

  wide : (b : ℕ) → b < 2 ^ (2 ^ i) → m * 2 ^ (2 ^ i) + b < 2 ^ (2 ^ (i + 1))
  wide b h = rw (twice i, pow-add 2 (2 ^ i) (2 ^ i)) (digits_lt s.small h)

  pub marks-free : bit c.care i ≡ 0 → Marks c (i + 1) (bit_or m (m * 2 ^ (2 ^ i)))
  marks-free e = rw (or_shifted_r m (2 ^ i) m s.small) (record { small = wide m s.small; marks = λ x. go x (ℕ_discrete (bit x i) 1) })
    where
      agrees : (x : ℕ) → bit (differs c x) i ≡ 0
      agrees x = differs-bit c x i ∙ ap (bit_and (bit_xor (bit x i) (bit c.value i))) e ∙ and_zero_r (bit_xor (bit x i) (bit c.value i))

      go : (x : ℕ) → Dec (bit x i ≡ 1) → eqb (bit (m * 2 ^ (2 ^ i) + m) (x % 2 ^ (i + 1))) 1 ≡ eqb (differs c x % 2 ^ (i + 1)) 0
      go x (yes e) = kept x (agrees x) (upper_bit m m x i s.small e)
      go x (no e) = let z : bit x i ≡ 0 = omega arith in kept x (agrees x) (lower_bit m m x i s.small z)

  pub marks-one : bit c.care i ≡ 1 → bit c.value i ≡ 1 → Marks c (i + 1) (m * 2 ^ (2 ^ i))
  marks-one e v =
      let r : Marks c (i + 1) (m * 2 ^ (2 ^ i) + 0) = record { small = wide 0 (pow_pos (2 ^ i)); marks = λ x. go x (ℕ_discrete (bit x i) 1) } in
      subst (Marks c (i + 1)) (add-zero (m * 2 ^ (2 ^ i))) r
    where
      go : (x : ℕ) → Dec (bit x i ≡ 1) → eqb (bit (m * 2 ^ (2 ^ i) + 0) (x % 2 ^ (i + 1))) 1 ≡ eqb (differs c x % 2 ^ (i + 1)) 0
      go x (yes k) = kept x (differs-bit c x i ∙ rw (e, v, k)) (upper_bit m 0 x i (pow_pos (2 ^ i)) k)
      go x (no k) = let z : bit x i ≡ 0 = omega arith in lost x (differs-bit c x i ∙ rw (e, v, z)) (lower_bit m 0 x i (pow_pos (2 ^ i)) z ∙ no_bit 0 (x % 2 ^ i) refl)

  pub marks-zero : bit c.care i ≡ 1 → bit c.value i ≡ 0 → Marks c (i + 1) m
  marks-zero e v =
      record {
        small = lt_of_lt_of_le s.small (pow_mono (pow_mono {i = i} {j = i + 1} (omega arith)));
        marks = λ x. rw (zero-mul, zero-add) at (go x (ℕ_discrete (bit x i) 1));
      }
    where
      go : (x : ℕ) → Dec (bit x i ≡ 1) → eqb (bit (0 * 2 ^ (2 ^ i) + m) (x % 2 ^ (i + 1))) 1 ≡ eqb (differs c x % 2 ^ (i + 1)) 0
      go x (yes k) = lost x (differs-bit c x i ∙ rw (e, v, k)) (upper_bit 0 m x i s.small k ∙ no_bit 0 (x % 2 ^ i) refl)
      go x (no k) = let z : bit x i ≡ 0 = omega arith in kept x (differs-bit c x i ∙ rw (e, v, z)) (lower_bit 0 m x i s.small z)

pub marks-start : (c : Cube) → Marks c 0 1
marks-start c = record { small = omega arith; marks = λ x. rw (mod-one, mod-one) }

-- A loop over inputs 0 to 5: m, moved by the ones among the literals below i, is the mask of the inputs below i.
abbrev ones : Cube → ℕ
ones c = bit_and c.care c.value

pub record Widened (c : Cube) (i m : ℕ) : Type 0 where
  pub few : i ≤ 6
  pub moved : Marks c i (m * 2 ^ (ones c % 2 ^ i))

pub widened_start : (c : Cube) → Widened c 0 1
widened_start c = record { few = omega arith; moved = rw (mod-one (ones c)) (marks-start c) }

-- The weight of input i, and 0 where it has a literal.
abbrev weight : ℕ → ℕ
weight i = (1 * 2 ^ i) % 2 ^ 64

abbrev free : ℕ → ℕ → ℕ
free care i = bit_xor (weight i) (bit_and care (weight i))

module _ (i : ℕ) (l : i < 6) where
  half : 2 ^ i + 2 ^ i ≤ 64
  half = omega (arith, twice i, pow_mono {i = i + 1} {j = 6} (omega arith))

  weight_is : weight i ≡ 2 ^ i
  weight_is = ap (λ (y : ℕ). y % 2 ^ 64) (one-mul (2 ^ i)) ∙ mod-eq_of_lt (omega (arith, half))

  module _ (care : ℕ) where
    pub free-small : free care i < 64
    free-small =
        let h : weight i < 64 = omega (arith, weight_is, half, pow_pos i) in
        xor_lt 6 (weight i) (bit_and care (weight i)) h (lt_of_le_of_lt (and_le_r care (weight i)) h)

    free-is : free care i ≡ bit_xor (2 ^ i) (bit care i * 2 ^ i)
    free-is = ap (λ (w : ℕ). bit_xor w (bit_and care w)) weight_is ∙ ap (bit_xor (2 ^ i)) (and-bit care i)

    free_one : bit care i ≡ 0 → free care i ≡ 2 ^ i
    free_one e = free-is ∙ ap (λ (b : ℕ). bit_xor (2 ^ i) (b * 2 ^ i)) e ∙ ap (bit_xor (2 ^ i)) (zero-mul (2 ^ i)) ∙ xor_zero_r (2 ^ i)

    free-zero : bit care i ≡ 1 → free care i ≡ 0
    free-zero e = free-is ∙ ap (λ (b : ℕ). bit_xor (2 ^ i) (b * 2 ^ i)) e ∙ ap (bit_xor (2 ^ i)) (one-mul (2 ^ i)) ∙ xor_self (2 ^ i)

ones_bit : (c : Cube) (i : ℕ) → bit (ones c) i ≡ bit_and (bit c.care i) (bit c.value i)
ones_bit c i = and-bits c.care c.value i

-- Factors in another order.
swap : (m x y : ℕ) → m * x * y ≡ m * y * x
swap m x y = mul_assoc m x y ∙ ap (λ (z : ℕ). m * z) (mul_comm x y) ∙ sym (mul_assoc m y x)

module _ {c : Cube} {i m : ℕ} (s : Widened c i m) (l : i < 6) where
  abbrev below : ℕ
  below = 2 ^ (ones c % 2 ^ i)

  own : m < 2 ^ (2 ^ i)
  own = lt_of_le_of_lt (rw mul-one at (mul-le-mul_left m (pow_pos (ones c % 2 ^ i)))) s.moved.small

  -- With a literal the bits stay, without one they are there twice.
  stays : bit c.care i ≡ 1 → bit_or m ((m * 2 ^ free c.care i) % 2 ^ 64) ≡ m
  stays e =
      let h : m < 2 ^ 64 = lt_of_lt_of_le own (pow_mono {j = 64} (omega (arith, half i l))) in
      ap (λ (y : ℕ). bit_or m ((m * 2 ^ y) % 2 ^ 64)) (free-zero i l c.care e) ∙ ap (λ (y : ℕ). bit_or m (y % 2 ^ 64)) (mul-one m) ∙ ap (bit_or m) (mod-eq_of_lt h) ∙ or_self m

  twofold : bit c.care i ≡ 0 → bit_or m ((m * 2 ^ free c.care i) % 2 ^ 64) * below ≡ bit_or (m * below) (m * below * 2 ^ (2 ^ i))
  twofold e =
      ap (λ (y : ℕ). bit_or m ((m * 2 ^ y) % 2 ^ 64) * below) (free_one i l c.care e)
      ∙ ap (λ (y : ℕ). bit_or m y * below) (shl_exact (2 ^ i) (2 ^ i) 64 own (half i l))
      ∙ ap (λ (y : ℕ). y * below) (or_shifted_r m (2 ^ i) m own)
      ∙ add-mul (m * 2 ^ (2 ^ i)) m below
      ∙ ap (λ (y : ℕ). y + m * below) (swap m (2 ^ (2 ^ i)) below)
      ∙ sym (or_shifted_r (m * below) (2 ^ i) (m * below) s.moved.small)

  higher : m * 2 ^ (2 ^ i + ones c % 2 ^ i) ≡ m * below * 2 ^ (2 ^ i)
  higher = ap (λ (y : ℕ). m * y) (pow-add 2 (2 ^ i) (ones c % 2 ^ i)) ∙ sym (mul_assoc m (2 ^ (2 ^ i)) below) ∙ swap m (2 ^ (2 ^ i)) below

  pub widened_more : Widened c (i + 1) (bit_or m ((m * 2 ^ free c.care i) % 2 ^ 64))
  widened_more = record { few = omega arith; moved = go (ℕ_discrete (bit c.care i) 1) (ℕ_discrete (bit c.value i) 1) }
    where
      go : Dec (bit c.care i ≡ 1) → Dec (bit c.value i ≡ 1) → Marks c (i + 1) (bit_or m ((m * 2 ^ free c.care i) % 2 ^ 64) * 2 ^ (ones c % 2 ^ (i + 1)))
      go (yes e) (yes v) = rw (stays e, index_one (ones c) i (ones_bit c i ∙ rw (e, v)), higher) (marks-one s.moved e v)
      go (yes e) (no v) = let z : bit c.value i ≡ 0 = omega arith in rw (stays e, index_zero (ones c) i (ones_bit c i ∙ rw (e, z))) (marks-zero s.moved e z)
      go (no e) v = let z : bit c.care i ≡ 0 = omega arith in rw (index_zero (ones c) i (ones_bit c i ∙ rw z), twofold z) (marks-free s.moved z)

pub widened_end : {c : Cube} {i m : ℕ} → Widened c i m → 6 ≤ i → Marks c 6 ((m * 2 ^ (ones c % 64)) % 2 ^ 64)
widened_end {c} {i} {m} s l =
    let e : i ≡ 6 = omega (arith, s.few) in
    let t : Marks c 6 (m * 2 ^ (ones c % 64)) = rw e at s.moved in
    rw (mod-eq_of_lt t.small) t

-- The cube of the words.
pub words_are : (c h : Cube) → Clean 10 c → h.care ≡ c.care / 64 → h.value ≡ c.value / 64 → Words c h
words_are c h f p q =
    record {
      fits = record { small = omega (arith, f.small); clean = rw (p, q) (sym (and_shr c.value c.care 6) ∙ ap (λ (y : ℕ). y / 64) f.clean) };
      word = λ x. rw (p, q) (sym (and_shr (bit_xor x c.value) c.care 6 ∙ ap (λ (y : ℕ). bit_and y (c.care / 64)) (xor_shr x c.value 6)));
    }

-- A bit of an `and`, as a test.
both_bits : (a b : ℕ) → eqb (bit_and (a % 2) (b % 2)) 1 ≡ (eqb (b % 2) 1 && eqb (a % 2) 1)
both_bits = bit_case2 (λ a b. eqb (bit_and a b) 1 ≡ (eqb b 1 && eqb a 1)) refl refl refl refl

pub and_test : (a b i : ℕ) → eqb (bit (bit_and a b) i) 1 ≡ (eqb (bit b i) 1 && eqb (bit a i) 1)
and_test a b i = ap (λ (y : ℕ). eqb y 1) (and-bits a b i) ∙ both_bits (a / 2 ^ i) (b / 2 ^ i)

-- The same, in the order of the words.
pub both_test : (a b i : ℕ) → eqb (bit (bit_and a b) i) 1 ≡ (eqb (bit a i) 1 && eqb (bit b i) 1)
both_test a b i = ap (λ (y : ℕ). eqb (bit y i) 1) (and_comm a b) ∙ and_test b a i

-- A bit of an `or`.
pub or_test : (a b i : ℕ) → eqb (bit (bit_or a b) i) 1 ≡ (eqb (bit a i) 1 || eqb (bit b i) 1)
or_test a b i = ap (λ (y : ℕ). eqb y 1) (or-bits a b i) ∙ bit_case2 (λ x y. eqb (bit_or x y) 1 ≡ (eqb x 1 || eqb y 1)) refl refl refl refl (a / 2 ^ i) (b / 2 ^ i)

-- A bit of a word without another word's bits, as a test.
pub less_test : (a b i : ℕ) → eqb (bit (bit_xor a (bit_and a b)) i) 1 ≡ (eqb (bit a i) 1 && not (eqb (bit b i) 1))
less_test a b i =
    ap (λ (y : ℕ). eqb y 1) (xor-bits a (bit_and a b) i ∙ ap (bit_xor (bit a i)) (and-bits a b i))
    ∙ bit_case2 (λ x y. eqb (bit_xor x (bit_and x y)) 1 ≡ (eqb x 1 && not (eqb y 1))) refl refl refl refl (a / 2 ^ i) (b / 2 ^ i)
