-- One input moved, by xor.
use mathlib.Core.Path.{◌≡◌, refl, sym, ap, ◌∙◌}
use mathlib.Core.Bool.{Bool, true, false, cond}
use Prim.Native.Nat.{ℕ, ◌+◌, ◌-◌, ◌*◌, ◌/◌, ◌^◌}
use native.Mathlib.Nat.{mod-lt, one-mul, zero-mul}
use native.Mathlib.Omega.{arith}
use lib.Dec.{eqb}
use lib.Bits.{bit_and, bit_xor, and_high, xor_add_and}
use lib.Pow.{pow_pos, pow-add}
use borrow.Author.Tests.{eqb-true, eqb-false}
use Rattle.hazard.specs.Cube.{bit, flip}

pub and-bit : (x i : ℕ) → bit_and x (2 ^ i) ≡ bit x i * 2 ^ i
and-bit x i = ap (bit_and x) (sym (omega (arith, pow-add 2 1 i))) ∙ and_high x 1 i

pub flip-xor : (x i : ℕ) → bit_xor x (2 ^ i) ≡ flip x i
flip-xor x i = go (eqb (bit x i) 0) refl
  where
    sum : bit_xor x (2 ^ i) + bit_and x (2 ^ i) * 2 ≡ x + 2 ^ i
    sum = xor_add_and x (2 ^ i)

    go : (b : Bool) → eqb (bit x i) 0 ≡ b → bit_xor x (2 ^ i) ≡ cond b (x + 2 ^ i) (x - 2 ^ i)
    go true e =
        let z : bit_and x (2 ^ i) ≡ 0 = and-bit x i ∙ ap (λ (b : ℕ). b * 2 ^ i) (eqb-true _ _ e) ∙ zero-mul (2 ^ i) in
        omega (arith, sum)
    go false e =
        let one : bit x i ≡ 1 = omega (arith, eqb-false (bit x i) 0 e, mod-lt (x / 2 ^ i) (pow_pos 1)) in
        let z : bit_and x (2 ^ i) ≡ 2 ^ i = and-bit x i ∙ ap (λ (b : ℕ). b * 2 ^ i) one ∙ one-mul (2 ^ i) in
        omega (arith, sum)
