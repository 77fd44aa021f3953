-- How many inputs differ, by the bits of one number.
use mathlib.Core.Path.{◌≡◌, refl, ap, ap₂, subst, ◌∙◌}
use mathlib.Core.Bool.{cond}
use Prim.Native.Nat.{ℕ, zero, suc, ◌+◌, ◌/◌, ◌%◌, ◌^◌}
use native.Mathlib.Numerals.{add-one}
use native.Mathlib.Omega.{arith}
use lib.Bits.{bit_xor}
use lib.Count.{ones, ones_step, ones-ones}
use lib.Dec.{eqb}
use lib.Pow.{field, mod-mod-pow}
use Rattle.hazard.specs.Cube.{distance}
use Rattle.cube.proofs.Bits.{bit_case2, xor_half, xor_last}

pub differing : (n a b : ℕ) → ones (bit_xor a b % 2 ^ n) ≡ distance n a b
differing zero a b = let z : bit_xor a b % 1 ≡ 0 = omega arith in ap ones z ∙ ones-ones 0
differing (suc n) a b = ones_step (bit_xor a b % 2 ^ suc n) ∙ ap₂ (λ (p q : ℕ). p + q) last (ap ones rest ∙ differing n (a / 2) (b / 2))
  where
    last : bit_xor a b % 2 ^ suc n % 2 ≡ cond (eqb (a % 2) (b % 2)) 0 1
    last =
        subst (λ (k : ℕ). bit_xor a b % 2 ^ k % 2 ≡ bit_xor a b % 2) (add-one n) (mod-mod-pow (bit_xor a b) n 1)
        ∙ xor_last a b ∙ bit_case2 (λ u v. bit_xor u v ≡ cond (eqb u v) 0 1) refl refl refl refl a b

    rest : bit_xor a b % 2 ^ suc n / 2 ≡ bit_xor (a / 2) (b / 2) % 2 ^ n
    rest = subst (λ (k : ℕ). bit_xor a b % 2 ^ k / 2 ≡ bit_xor a b / 2 % 2 ^ n) (add-one n) (field (bit_xor a b) n 1) ∙ ap (λ (y : ℕ). y % 2 ^ n) (xor_half a b)
