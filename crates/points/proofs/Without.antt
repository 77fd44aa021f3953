-- A set of points without those of another one, word by word.
use mathlib.Core.Path.{◌≡◌, refl, sym, ap, ◌∙◌}
use mathlib.Core.Bool.{Bool, false, not, ◌&&◌}
use mathlib.Core.List.{List}
use Prim.Native.Nat.{ℕ, ◌-◌, ◌/◌, ◌%◌, ◌^◌, ◌≤◌, ◌<◌}
use native.Mathlib.Decide.{dec_lt}
use native.Mathlib.Omega.{arith}
use lib.Bits.{bit_and}
use lib.Dec.{eqb}
use lib.ListN.{length, get_or, get_or-eq_default}
use Rattle.std.proofs.Common.{w64}
use Rattle.std.specs.Int.{bit_not}
use Rattle.std.proofs.lemmas.Nat.Bits.{bit_at_not}
use Rattle.hazard.specs.Cube.{bit}
use Rattle.cube.specs.PointSet.{in_set}
use Rattle.cube.proofs.Bits.{bit_case2}
use Rattle.cube.proofs.WordMask.{no_bit, and-bits}
use Rattle.cube.proofs.Sweep.{Sweep}

-- The word u without the points of the other set.
abbrev pub left_word : List ℕ → ℕ → ℕ → ℕ
left_word other u word = bit_and word (bit_not w64 (get_or other u 0))

but_test : (a b k : ℕ) → b < 2 ^ 64 → k < 64 → eqb (bit (bit_and a (bit_not w64 b)) k) 1 ≡ (eqb (bit a k) 1 && not (eqb (bit b k) 1))
but_test a b k h l =
    ap (λ (y : ℕ). eqb y 1) (and-bits a (bit_not w64 b) k ∙ ap (bit_and (bit a k)) (bit_at_not w64 b k h l))
    ∙ bit_case2 (λ x y. eqb (bit_and x (1 - y)) 1 ≡ (eqb x 1 && not (eqb y 1))) refl refl refl refl (a / 2 ^ k) (b / 2 ^ k)

-- Where every word of the set was changed so, the other's points are out.
pub left-without : {set : List ℕ} (other : List ℕ) {out : List ℕ} {i : ℕ} → ((u : ℕ) → u < i → get_or other u 0 < 2 ^ 64) → Sweep (left_word other) 0 set out i → length set ≤ i
    → (x : ℕ) → in_set out x ≡ (in_set set x && not (in_set other x))
left-without {set} other {out} {i} fit s l x = go (dec_lt (x / 64) i)
  where
    go : Dec (x / 64 < i) → in_set out x ≡ (in_set set x && not (in_set other x))
    go (yes h) = ap (λ (y : ℕ). eqb (bit y (x % 64)) 1) (s.done (x / 64) h) ∙ but_test (get_or set (x / 64) 0) (get_or other (x / 64) 0) (x % 64) (fit (x / 64) h) (omega arith)
    go (no h) =
        let e : get_or set (x / 64) 0 ≡ 0 = get_or-eq_default set 0 (omega (arith, h, l)) in
        let none : in_set set x ≡ false = ap (λ (y : ℕ). eqb (bit y (x % 64)) 1) e ∙ ap (λ (b : ℕ). eqb b 1) (no_bit 0 (x % 64) refl) in
        ap (λ (y : ℕ). eqb (bit y (x % 64)) 1) (s.rest (x / 64) (omega (arith, h))) ∙ none ∙ sym (ap (λ (b : Bool). b && not (in_set other x)) none)
