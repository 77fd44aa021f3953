-- The loop that narrows a set of rows, input by input.
use mathlib.Core.Path.{◌≡◌, refl, ap, ap₂, ◌∙◌}
use mathlib.Core.Bool.{Bool, true, false, ◌&&◌}
use mathlib.Core.List.{List}
use Prim.Native.Nat.{ℕ, suc, ◌+◌, ◌-◌, ◌*◌, ◌/◌, ◌%◌, ◌≤◌, ◌<◌, min}
use native.Mathlib.Numerals.{add-one}
use native.Mathlib.Omega.{arith}
use native.Mathlib.Decide.{dec_lt}
use lib.Bits.{bit_and}
use lib.Dec.{eqb}
use lib.ListN.{length, get_or}
use Rattle.hazard.specs.Cube.{bit}
use Rattle.cube.specs.Mask.{digit_at}
use Rattle.cube.specs.PointSet.{in_set}
use Rattle.cube.specs.declared.mask.Cube.{Cube}
use Rattle.cube.proofs.WordMask.{both_test}
use Rattle.blocks.specs.Blocks.{stride, word_at, allowed, allowed_to}

two : (o a x y : Bool) → ((o && a) && (x && y)) ≡ (o && ((a && x) && y))
two true true x y = refl
two true false x y = refl
two false a x y = refl

once : (o a x : Bool) → ((o && a) && (x && x)) ≡ (o && (a && x))
once true true true = refl
once true true false = refl
once true false x = refl
once false a x = refl

-- After the inputs below i the set holds the rows of the first set that allow them.
pub record Narrowing (columns : List ℕ) (c : Cube) (old new : List ℕ) (i : ℕ) : Type 0 where
  pub long : length new ≡ length old
  pub is : (k : ℕ) → k < 64 * length old → in_set new k ≡ (in_set old k && allowed_to columns k c i)

and_one : (b : Bool) → b ≡ (b && true)
and_one true = refl
and_one false = refl

pub narrowing_start : (columns : List ℕ) (c : Cube) (old : List ℕ) → Narrowing columns c old old 0
narrowing_start columns c old = record { long = refl; is = λ k h. and_one (in_set old k) }

-- The words of a run are those of an input, for the cube's digit there.
abbrev pub Digits : List ℕ → Cube → ℕ → List ℕ → Type 0
Digits columns c j run = (b : ℕ) → b < stride columns → get_or run b 0 ≡ word_at columns j (digit_at c j) b

module _ {columns : List ℕ} {c : Cube} {old new : List ℕ} {i : ℕ} (s : Narrowing columns c old new i) (fits : length old ≤ stride columns) (next : List ℕ) (l : length next ≡ length new) where
  abbrev own : ℕ → ℕ → Bool
  own k j = allowed columns k j (digit_at c j)

  -- The bits of the words with those of inputs i and j.
  bits : (j : ℕ) (first second : List ℕ) → Digits columns c i first → Digits columns c j second
      → ((b : ℕ) → b < length new → get_or next b 0 ≡ bit_and (get_or new b 0) (bit_and (get_or first b 0) (get_or second b 0)))
      → (k : ℕ) → k < 64 * length old → in_set next k ≡ ((in_set old k && allowed_to columns k c i) && (own k i && own k j))
  bits j first second e f h k a =
      ap (λ (w : ℕ). eqb (bit w (k % 64)) 1) (h (k / 64) (omega (arith, s.long)) ∙ ap₂ (λ (y z : ℕ). bit_and (get_or new (k / 64) 0) (bit_and y z)) (e (k / 64) (omega (arith, fits))) (f (k / 64) (omega (arith, fits))))
      ∙ both_test (get_or new (k / 64) 0) (bit_and (word_at columns i (digit_at c i) (k / 64)) (word_at columns j (digit_at c j) (k / 64))) (k % 64)
      ∙ ap₂ ◌&&◌ (s.is k a) (both_test (word_at columns i (digit_at c i) (k / 64)) (word_at columns j (digit_at c j) (k / 64)) (k % 64))

  -- Input i and the next one, or input i twice where it is the last.
  pub narrowing_step : {j : ℕ} (n : ℕ) (first second : List ℕ) → i < n → j ≡ min (i + 1) (n - 1) → Digits columns c i first → Digits columns c j second
      → ((b : ℕ) → b < length new → get_or next b 0 ≡ bit_and (get_or new b 0) (bit_and (get_or first b 0) (get_or second b 0))) → Narrowing columns c old next (j + 1)
  narrowing_step {j} n first second low e f g h = elim (dec_lt (i + 1) n) [
    | yes m ↦
        let p : j ≡ suc i = omega (arith, e) in
        record {
          long = l ∙ s.long;
          is = λ k a. bits j first second f g h k a ∙ two (in_set old k) (allowed_to columns k c i) (own k i) (own k j) ∙ rw (p, add-one);
        }
    | no m ↦
        let q : j ≡ i = omega (arith, e, low, m) in
        record {
          long = l ∙ s.long;
          is = λ k a. bits j first second f g h k a ∙ rw (q, add-one) (once (in_set old k) (allowed_to columns k c i) (own k i));
        }
  ]

-- The second of the two inputs is not before the first, it is below n, and after it comes the next input but one, or n.
pub partner_low : (i n : ℕ) {j : ℕ} → i < n → j ≡ min (i + 1) (n - 1) → (i ≤ j) × (j < n) × (j + 1 ≡ min (i + 2) n)
partner_low i n l e = (omega (arith, e, l), omega (arith, e, l), omega (arith, e, l))
