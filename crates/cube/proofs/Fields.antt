-- The bits of a word's fields.
use mathlib.Core.Path.{◌≡◌, sym, ap, ◌∙◌, subst}
use Prim.Native.Nat.{ℕ, suc, ◌+◌, ◌-◌, ◌/◌, ◌%◌, ◌^◌, ◌<◌}
use native.Mathlib.Nat.{zero-add}
use native.Mathlib.Omega.{arith}
use lib.Pow.{shr-shr}
use Rattle.hazard.specs.Cube.{bit}
use Rattle.cube.specs.Entry.{value_in, care_in, point_in, value_bit, care_bit, point_bit}
use Rattle.cube.proofs.WordMask.{mod-bit}

low_bits : (y i : ℕ) → i < 16 → bit y i ≡ bit (y % 65536) i
low_bits y i h =
    let e : suc (15 - i) + i ≡ 16 = omega arith in
    sym (subst (λ (j : ℕ). bit (y % 2 ^ j) i ≡ bit y i) e (mod-bit y (15 - i) i))

field-bits : (s w i : ℕ) → i < 16 → bit w (s + i) ≡ bit (w / 2 ^ s % 65536) i
field-bits s w i h = ap (λ (y : ℕ). y % 2) (sym (shr-shr w s i)) ∙ low_bits (w / 2 ^ s) i h

module _ (w i : ℕ) (h : i < 16) where
  pub value-bits : bit w (value_bit + i) ≡ bit (value_in w) i
  value-bits = ap (bit w) (zero-add i) ∙ low_bits w i h

  pub care_bits : bit w (care_bit + i) ≡ bit (care_in w) i
  care_bits = field-bits care_bit w i h

  pub point-bits : bit w (point_bit + i) ≡ bit (point_in w) i
  point-bits = field-bits point_bit w i h
