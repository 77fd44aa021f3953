-- Words of tests, and the points of a word under a mask.
use mathlib.Core.Path.{◌≡◌, refl, sym, ap, ap₂, ◌∙◌}
use mathlib.Core.Bool.{Bool, true, false, not, ◌&&◌}
use mathlib.Core.List.{List}
use Prim.Native.Nat.{ℕ, ◌/◌, ◌%◌, ◌^◌, ◌<◌}
use native.Mathlib.Nat.{lt_of_le_of_lt}
use native.Mathlib.Omega.{arith}
use lib.Dec.{eqb}
use lib.Bits.{bit_and, bit_xor, and_le_l, and_le_r, xor_lt}
use lib.ListN.{get_or}
use Rattle.hazard.specs.Cube.{bit}
use Rattle.cube.specs.PointSet.{in_set}
use Rattle.cube.proofs.Bits.{bit_case2}
use Rattle.cube.proofs.WordMask.{no_bit, and_test, both_test, xor-bits}
use Rattle.points.specs.PointWord.{WordOf, masked}

-- A test that holds does not fail.
pub true-false : ◌≡◌ {A = Bool} true false → ⊥
true-false e = let z : ◌≡◌ {A = ℕ} 0 1 = cc in absurd (omega arith)

pub and_assoc : (a b d : Bool) → ((a && b) && d) ≡ (a && (b && d))
and_assoc true b d = refl
and_assoc false b d = refl

pub and-false : (b : Bool) → (b && false) ≡ false
and-false true = refl
and-false false = refl

-- The same test, written otherwise.
word_as : {s t : ℕ → Bool} {w r : ℕ} → ((x : ℕ) → s x ≡ t x) → WordOf s w r → WordOf t w r
word_as h s = record { small = s.small; bits = λ x q. s.bits x q ∙ h x }

module _ {s t : ℕ → Bool} {w r q : ℕ} (p : WordOf s w r) (g : WordOf t w q) where
  word_and : WordOf (λ x. s x && t x) w (bit_and r q)
  word_and = record { small = lt_of_le_of_lt (and_le_l r q) p.small; bits = λ x e. both_test r q (x % 64) ∙ ap₂ ◌&&◌ (p.bits x e) (g.bits x e) }

-- No point passes.
pub none_passes : {test : ℕ → Bool} {w r : ℕ} → WordOf test w r → r ≡ 0 → (x : ℕ) → x / 64 ≡ w → test x ≡ false
none_passes {r = r} s e x q = sym (s.bits x q) ∙ ap (λ (y : ℕ). eqb y 1) (no_bit r (x % 64) e)

-- The points of a set under a mask.
pub set_word : (words : List ℕ) (w m : ℕ) → m < 2 ^ 64 → WordOf (masked m (in_set words)) w (bit_and (get_or words w 0) m)
set_word words w m h =
    record {
      small = lt_of_le_of_lt (and_le_r (get_or words w 0) m) h;
      bits = λ x q. and_test (get_or words w 0) m (x % 64) ∙ ap (λ (v : ℕ). eqb (bit m (x % 64)) 1 && eqb (bit (get_or words v 0) (x % 64)) 1) (sym q);
    }

-- Two tests under a mask.
pub word_none : (m : ℕ) (test also : ℕ → Bool) {w r : ℕ} → WordOf (masked m test) w r → r ≡ 0 → WordOf (masked m (λ x. test x && also x)) w 0
word_none m test also s e =
    word_as {s = λ x. masked m test x && also x} (λ x. and_assoc (eqb (bit m (x % 64)) 1) (test x) (also x))
    (record { small = omega arith; bits = λ x q. ap (λ (y : ℕ). eqb y 1) (no_bit 0 (x % 64) refl) ∙ sym (ap (λ (b : Bool). b && also x) (none_passes s e x q)) })

module _ (m : ℕ) (s t : ℕ → Bool) {w r q : ℕ} (p : WordOf (masked m s) w r) (g : WordOf t w q) where
  pub mask_and : WordOf (masked m (λ x. s x && t x)) w (bit_and r q)
  mask_and = word_as {s = λ x. masked m s x && t x} (λ x. and_assoc (eqb (bit m (x % 64)) 1) (s x) (t x)) (word_and p g)

-- The points that pass the first test, without those that pass both.
abbrev but : Bool → Bool → Bool
but true c = not c
but false c = c

but_bit : (a b : ℕ) → eqb (bit_xor (a % 2) (b % 2)) 1 ≡ but (eqb (a % 2) 1) (eqb (b % 2) 1)
but_bit = bit_case2 (λ a b. eqb (bit_xor a b) 1 ≡ but (eqb a 1) (eqb b 1)) refl refl refl refl

but_both : (a b c : Bool) → but (a && b) (a && (b && c)) ≡ (a && (b && not c))
but_both true true c = refl
but_both true false c = refl
but_both false b c = refl

pub mask_but : (m : ℕ) (s t : ℕ → Bool) {w r q : ℕ} → WordOf (masked m s) w r → WordOf (masked m (λ x. s x && t x)) w q → WordOf (masked m (λ x. s x && not (t x))) w (bit_xor r q)
mask_but m s t {w} {r} {q} p g =
    record {
      small = xor_lt 64 r q p.small g.small;
      bits = λ x e. ap (λ (y : ℕ). eqb y 1) (xor-bits r q (x % 64)) ∙ but_bit (r / 2 ^ (x % 64)) (q / 2 ^ (x % 64)) ∙ ap₂ but (p.bits x e) (g.bits x e) ∙ but_both (eqb (bit m (x % 64)) 1) (s x) (t x);
    }
