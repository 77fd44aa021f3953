-- A loop over the steps of a walk, for the lowest point that passes a test.
use mathlib.Core.Path.{◌≡◌, sym, ap, ◌∙◌}
use mathlib.Core.Logic.{◌≢◌}
use mathlib.Core.Bool.{Bool, true, false, ◌&&◌}
use Rattle.std.specs.Prelude.{None, Some}
use Prim.Native.Nat.{ℕ, ◌+◌, ◌*◌, ◌/◌, ◌%◌, ◌≤◌, ◌<◌}
use native.Mathlib.Decide.{dec_lt}
use native.Mathlib.Omega.{arith}
use lib.Dec.{eqb}
use lib.Count.{count_trailing_zeros}
use Rattle.hazard.specs.Cube.{bit}
use Rattle.cube.proofs.ByWords.{Lowest, lowest-bit, first_at, first-not}
use Rattle.points.specs.declared.walk.Walk.{Walk}
use Rattle.points.specs.declared.walk.Step.{Step}
use Rattle.points.specs.PointWord.{WordOf, masked}
use Rattle.points.specs.Walk.{visits, lowest_on, At, Steps}
use Rattle.points.proofs.Masked.{none_passes}

-- The points of the step's word that pass are points of the walk that pass.
pub visit_word : {k : Walk} {s : Step} → At k s → s.word < 16 → (test : ℕ → Bool) {r : ℕ} → WordOf (masked s.mask test) s.word r → WordOf (λ x. visits k x && test x) s.word r
visit_word a l test p = record { small = p.small; bits = λ x q. p.bits x q ∙ ap (λ (b : Bool). b && test x) (a.bits l x q) }

-- Between two steps no point passes.
pub visit_gap : {k : Walk} {from : ℕ} {s : Step} → Steps k from s → (test : ℕ → Bool) (x : ℕ) → from ≤ x / 64 → x / 64 < s.word → x / 64 < 16 → (visits k x && test x) ≡ false
visit_gap t test x a b l = ap (λ (c : Bool). c && test x) (t.gap x a b l)

-- The step stands in the walk, and no point of the words before it passes.
pub record Looked (k : Walk) (test : ℕ → Bool) (s : Step) : Type 0 where
  pub at' : At k s
  pub none : (x : ℕ) → x / 64 < 16 → x / 64 < s.word → (visits k x && test x) ≡ false

module _ {k : Walk} {test : ℕ → Bool} {s : Step} (h : Looked k test s) where
  module _ (few : s.word < 16) {r : ℕ} (p : WordOf (masked s.mask test) s.word r) where
    word : WordOf (λ x. visits k x && test x) s.word r
    word = visit_word h.at' few test p

    pub looked_more : r ≡ 0 → {t : Step} → Steps k (s.word + 1) t → Looked k test t
    looked_more e {t} q = record { at' = q.at'; none = λ x u l. go x u l (dec_lt (x / 64) s.word) (dec_lt s.word (x / 64)) }
      where
        go : (x : ℕ) → x / 64 < 16 → x / 64 < t.word → Dec (x / 64 < s.word) → Dec (s.word < x / 64) → (visits k x && test x) ≡ false
        go x u l (yes i) j = h.none x u i
        go x u l (no i) (yes j) = visit_gap q test x (omega arith) l u
        go x u l (no i) (no j) = none_passes word e x (omega (arith, i, j))

    -- The lowest bit of the word is the lowest point that passes.
    module _ (ne : r ≢ 0) where
      least_bit : Lowest 64 r (count_trailing_zeros 64 r)
      least_bit = lowest-bit 64 r word.small ne

      below : (y : ℕ) → y < 64 * s.word + count_trailing_zeros 64 r → (visits k y && test y) ≡ false
      below y l =
          elim (dec_lt (y / 64) s.word) [
            | yes i ↦ h.none y (omega (arith, few, i)) i
            | no i ↦ let q : y / 64 ≡ s.word = omega (arith, i, least_bit.inside) in sym (word.bits y q) ∙ ap (λ (b : ℕ). eqb b 1) (least_bit.least (y % 64) (omega arith))
          ]

      here : (visits k (64 * s.word + count_trailing_zeros 64 r) && test (64 * s.word + count_trailing_zeros 64 r)) ≡ true
      here =
          let q : (64 * s.word + count_trailing_zeros 64 r) / 64 ≡ s.word = omega (arith, least_bit.inside) in
          let p : (64 * s.word + count_trailing_zeros 64 r) % 64 ≡ count_trailing_zeros 64 r = omega (arith, least_bit.inside) in
          sym (word.bits (64 * s.word + count_trailing_zeros 64 r) q) ∙ ap (λ (b : ℕ). eqb (bit r b) 1) p ∙ ap (λ (b : ℕ). eqb b 1) least_bit.set

      pub looked_hit : Some (64 * s.word + count_trailing_zeros 64 r) ≡ lowest_on k test
      unfolding lowest_on
      looked_hit = first_at (λ x. visits k x && test x) (64 * s.word + count_trailing_zeros 64 r) 1024 here (omega (arith, least_bit.inside)) below

  pub looked_end : 16 ≤ s.word → None ≡ lowest_on k test
  unfolding lowest_on
  looked_end l = first-not (λ x. visits k x && test x) 1024 (λ y b. h.none y (omega arith) (omega arith))
