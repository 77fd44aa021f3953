-- The lowest bit of a word, and the words that have points of a cube.
use mathlib.Core.Path.{◌≡◌, refl, sym, ap, ap₂, ◌∙◌}
use mathlib.Core.Logic.{◌≢◌}
use mathlib.Core.Bool.{Bool, true, false, ◌&&◌}
use Rattle.std.specs.Prelude.{Option, None, Some}
use Prim.Native.Nat.{ℕ, zero, suc, ◌/◌, ◌%◌, ◌^◌, ◌<◌}
use native.Mathlib.Nat.{mod-lt, div-one}
use native.Mathlib.Decide.{dec_lt}
use native.Mathlib.Omega.{arith}
use lib.Dec.{T, eqb}
use lib.Arith.{lt-one}
use lib.Count.{under, count_trailing_zeros}
use Rattle.hazard.specs.Cube.{bit, has}
use Rattle.hazard.proofs.Point.{bit-suc}
use Rattle.hazard.proofs.Test.{so, so_not}
use Rattle.hazard.proofs.Search.{First, nowhere, lowest, first-is, none_first}
use Rattle.hazard.specs.Search.{first}
use Rattle.cube.specs.Mask.{cube_of, Clean}
use Rattle.cube.specs.WordMask.{differs, Marks, Words}
use Rattle.cube.specs.declared.mask.Cube.{Cube}
use Rattle.cube.proofs.Bits.{half_lt, zero_both}
use Rattle.cube.proofs.Masks.{has_masks}
use Rattle.cube.proofs.Following.{value_least}
use Rattle.cube.proofs.Scan.{value_in_lem}

-- The lowest bit of a number.
pub record Lowest (k r t : ℕ) : Type 0 where
  pub inside : t < k
  pub set : bit r t ≡ 1
  pub least : (b : ℕ) → b < t → bit r b ≡ 0

pub lowest-bit : (k r : ℕ) → r < 2 ^ k → r ≢ 0 → Lowest k r (count_trailing_zeros k r)
unfolding count_trailing_zeros
lowest-bit zero r h n = absurd (n (lt-one h))
lowest-bit (suc k) r h n = go (r % 2) refl (mod-lt r (omega arith)) (λ z. lowest-bit k (r / 2) (half_lt r k h) (λ e. n (omega arith)))
  where
    go : (d : ℕ) → r % 2 ≡ d → d < 2 → (r % 2 ≡ 0 → Lowest k (r / 2) (count_trailing_zeros k (r / 2))) → Lowest (suc k) r (under d (count_trailing_zeros k (r / 2)))
    go zero e l ih = let v = ih e in record { inside = omega (arith, v.inside); set = bit-suc r _ ∙ v.set; least = λ b h. low b h }
      where
        low : (b : ℕ) → b < suc (count_trailing_zeros k (r / 2)) → bit r b ≡ 0
        low zero h = ap (λ (y : ℕ). y % 2) (div-one r) ∙ e
        low (suc b) h = bit-suc r b ∙ (ih e).least b (omega arith)
    go (suc zero) e l ih = record { inside = omega arith; set = ap (λ (y : ℕ). y % 2) (div-one r) ∙ e; least = λ b h. absurd (omega arith) }
    go (suc (suc d)) e l ih = absurd (omega arith)

pub first_at : (test : ℕ → Bool) (x size : ℕ) → test x ≡ true → x < size → ((y : ℕ) → y < x → test y ≡ false) → Some x ≡ first test 0 size
first_at test x size e l h = go (first test 0 size) (first-is test 0 size)
  where
    go : (o : Option ℕ) → First test 0 size o → Some x ≡ o
    go None (nowhere k) = absurd (k x (omega arith) (omega arith) (so e))
    go (Some y) (lowest t a b k) =
        elim (dec_lt y x) [
          | yes i ↦ absurd (so_not (h y i) t)
          | no i ↦ elim (dec_lt x y) [ yes j ↦ absurd (k x (omega arith) j (so e)) | no j ↦ let q : x ≡ y = omega (arith, i, j) in ap Some q ]
        ]

pub first-not : (test : ℕ → Bool) (size : ℕ) → ((y : ℕ) → y < size → test y ≡ false) → None ≡ first test 0 size
first-not test size h = sym (none_first test 0 size (λ x a b. so_not (h x (omega (arith, b)))))

-- The points of a cube, by the words that have points of it and by the mask of its points in them.
pub word-bit : {c h : Cube} {m : ℕ} → Words c h → Marks c 6 m → (x : ℕ) → (has (cube_of 4 h) (x / 64) && eqb (bit m (x % 64)) 1) ≡ eqb (differs c x) 0
word-bit {c} {h} k a x =
    sym (zero_both (differs c x) (differs c x / 64) (differs c x % 64) (λ e. omega arith) (λ e. omega arith)
    ∙ ap₂ ◌&&◌ (ap (λ (y : ℕ). eqb y 0) (sym (k.word x)) ∙ has_masks 4 h.care h.value (x / 64) k.fits.small) (sym (a.marks x)))

-- The first word is the lowest.
pub word_first : {h : Cube} → Clean 4 h → T (has (cube_of 4 h) h.value)
word_first {h} f = value_in_lem 4 h.care h.value f.small

pub word_below : {h : Cube} → Clean 4 h → (w : ℕ) → w < h.value → ¬ T (has (cube_of 4 h) w)
word_below {h} f w l t = omega (arith, value_least 4 h.care h.value w f.small f.clean t)
