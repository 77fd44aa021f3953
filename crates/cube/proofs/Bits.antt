-- The bit operations, bit by bit.
use mathlib.Core.Path.{◌≡◌, refl, sym, ap, ◌∙◌}
use mathlib.Core.Logic.{◌≢◌}
use mathlib.Core.Bool.{Bool, false, ◌&&◌}
use Prim.Native.Nat.{ℕ, zero, suc, ◌+◌, ◌*◌, ◌/◌, ◌%◌, ◌^◌, ◌<◌}
use native.Mathlib.Nat.{mod-lt, mod-eq_of_lt, one-mul, pow-suc}
use native.Mathlib.Decide.{ℕ_discrete}
use native.Mathlib.Omega.{arith}
use lib.Dec.{eqb}
use lib.Arith.{bin_ind}
use lib.Bits.{bit_and, bit_or, bit_xor, and_zero_l, and_zero_r, and_shr, and_mod, or_shr, or_mod, xor_shr, xor_mod}
use lib.Pow.{pow-lt}
use borrow.Author.Tests.{ne_eqb}

-- What holds of 0 and of 1 holds of every binary digit.
pub bit_case : (P : ℕ → Type 0) → P 0 → P 1 → (x : ℕ) → P (x % 2)
bit_case P p q x = go (x % 2) (mod-lt x (omega arith))
  where
    go : (b : ℕ) → b < 2 → P b
    go zero h = p
    go (suc zero) h = q
    go (suc (suc b)) h = absurd (omega arith)

pub bit_case2 : (P : ℕ → ℕ → Type 0) → P 0 0 → P 0 1 → P 1 0 → P 1 1 → (x y : ℕ) → P (x % 2) (y % 2)
bit_case2 P a b c d x y = bit_case (λ u. P u (y % 2)) (bit_case (P 0) a b y) (bit_case (P 1) c d y) x

pub bit_case3 : (P : ℕ → ℕ → ℕ → Type 0)
    → P 0 0 0 → P 0 0 1 → P 0 1 0 → P 0 1 1 → P 1 0 0 → P 1 0 1 → P 1 1 0 → P 1 1 1 → (x y z : ℕ) → P (x % 2) (y % 2) (z % 2)
bit_case3 P a b c d e f g h x y z =
    bit_case (λ u. P u (y % 2) (z % 2)) (bit_case2 (P 0) a b c d y z) (bit_case2 (P 1) e f g h y z) x

pub bit_case4 : (P : ℕ → ℕ → ℕ → ℕ → Type 0)
    → P 0 0 0 0 → P 0 0 0 1 → P 0 0 1 0 → P 0 0 1 1 → P 0 1 0 0 → P 0 1 0 1 → P 0 1 1 0 → P 0 1 1 1
    → P 1 0 0 0 → P 1 0 0 1 → P 1 0 1 0 → P 1 0 1 1 → P 1 1 0 0 → P 1 1 0 1 → P 1 1 1 0 → P 1 1 1 1
    → (w x y z : ℕ) → P (w % 2) (x % 2) (y % 2) (z % 2)
bit_case4 P a b c d e f g h a' b' c' d' e' f' g' h' w x y z =
    bit_case (λ u. P u (x % 2) (y % 2) (z % 2)) (bit_case3 (P 0) a b c d e f g h x y z) (bit_case3 (P 1) a' b' c' d' e' f' g' h' x y z) w

-- The operations on the last digit and on the rest.
pub and_half : (a b : ℕ) → bit_and a b / 2 ≡ bit_and (a / 2) (b / 2)
and_half a b = and_shr a b 1

pub or_half : (a b : ℕ) → bit_or a b / 2 ≡ bit_or (a / 2) (b / 2)
or_half a b = or_shr a b 1

pub xor_half : (a b : ℕ) → bit_xor a b / 2 ≡ bit_xor (a / 2) (b / 2)
xor_half a b = xor_shr a b 1

pub and_last : (a b : ℕ) → bit_and a b % 2 ≡ bit_and (a % 2) (b % 2)
and_last a b = and_mod a b 1

pub or_last : (a b : ℕ) → bit_or a b % 2 ≡ bit_or (a % 2) (b % 2)
or_last a b = or_mod a b 1

pub xor_last : (a b : ℕ) → bit_xor a b % 2 ≡ bit_xor (a % 2) (b % 2)
xor_last a b = xor_mod a b 1

pub ruleset halves = (and_half, or_half, xor_half)

pub ruleset lasts = (and_last, or_last, xor_last)

pub half_lt : (a n : ℕ) → a < 2 ^ suc n → a / 2 < 2 ^ n
half_lt a n h = omega (arith, pow-suc 2 n)

-- Two numbers are equal when their last digits and the rest are.
pub by_digits : {a b : ℕ} → a / 2 ≡ b / 2 → a % 2 ≡ b % 2 → a ≡ b
by_digits {a} {b} p q = omega arith

-- A number is 0 where two others are.
pub zero_both : (d a b : ℕ) → (d ≡ 0 → a + b ≡ 0) → (a + b ≡ 0 → d ≡ 0) → eqb d 0 ≡ (eqb a 0 && eqb b 0)
zero_both d a b f g =
    elim (ℕ_discrete d 0) [
      | yes e ↦ let p : a ≡ 0 = omega (arith, f e) in let q : b ≡ 0 = omega (arith, f e) in rw (e, p, q)
      | no n ↦ ne_eqb d 0 n ∙ sym (go a b (λ e. n (g e)))
    ]
  where
    go : (a b : ℕ) → a + b ≢ 0 → (eqb a 0 && eqb b 0) ≡ false
    go zero b h = ne_eqb b 0 (λ e. h (omega arith))
    go (suc a) b h = ap (λ (t : Bool). t && eqb b 0) (ne_eqb (suc a) 0 (λ e. omega arith))

-- A number is 0 where its last digit is and the rest is.
pub zero_split : (n : ℕ) → eqb n 0 ≡ (eqb (n % 2) 0 && eqb (n / 2) 0)
zero_split n = zero_both n (n % 2) (n / 2) (λ e. omega arith) (λ e. omega arith)

-- The code's 1 << i, in words of w bits, and of 16.
pub one_shifted : (w i : ℕ) → i < w → (1 * 2 ^ i) % 2 ^ w ≡ 2 ^ i
one_shifted w i h = ap (λ (x : ℕ). x % 2 ^ w) (one-mul (2 ^ i)) ∙ mod-eq_of_lt (pow-lt {j = w} h)

pub one_shl : (i : ℕ) → i < 16 → (1 * 2 ^ i) % 2 ^ 16 ≡ 2 ^ i
one_shl = one_shifted 16

-- A mask applied twice.
pub and_again : (a b : ℕ) → bit_and (bit_and a b) b ≡ bit_and a b
and_again a =
    bin_ind (λ (n : ℕ). (b : ℕ) → bit_and (bit_and n b) b ≡ bit_and n b) (λ b. refl)
    (λ n ih b. by_digits
    (simp halves (ih (b / 2)))
    (simp lasts (bit_case2 (λ x y. bit_and (bit_and x y) y ≡ bit_and x y) refl refl refl refl n b))) a

-- Bits of a mask changed in a number, under the mask.
pub xor_within : (b a p : ℕ) → bit_and (bit_xor a (bit_and b p)) b ≡ bit_xor (bit_and a b) (bit_and b p)
xor_within b =
    bin_ind (λ (n : ℕ). (a p : ℕ) → bit_and (bit_xor a (bit_and n p)) n ≡ bit_xor (bit_and a n) (bit_and n p)) (λ a p. rw (and_zero_l, and_zero_r, and_zero_r))
    (λ n ih a p. by_digits
    (simp halves (ih (a / 2) (p / 2)))
    (simp lasts (bit_case3 (λ x y z. bit_and (bit_xor x (bit_and y z)) y ≡ bit_xor (bit_and x y) (bit_and y z)) refl refl refl refl refl refl refl refl a n p))) b
