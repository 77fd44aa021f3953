-- A loop over the steps of a walk that takes its points into a set.
use mathlib.Core.Path.{◌≡◌, sym, ap, ap₂, ◌∙◌}
use mathlib.Core.Bool.{Bool, ◌||◌, or-false}
use mathlib.Core.List.{List}
use Prim.Native.Nat.{ℕ, ◌+◌, ◌/◌, ◌%◌, ◌≤◌, ◌<◌}
use native.Mathlib.Decide.{ℕ_discrete, dec_lt}
use native.Mathlib.Omega.{arith}
use lib.Bits.{bit_or}
use lib.Dec.{eqb}
use lib.ListN.{length, get_or, set, length-set}
use lib.Seq.{get_or-set_same, get_or-set_other}
use Rattle.hazard.specs.Cube.{bit}
use Rattle.cube.specs.PointSet.{in_set}
use Rattle.cube.proofs.WordMask.{or_test}
use Rattle.points.specs.declared.walk.Walk.{Walk}
use Rattle.points.specs.declared.walk.Step.{Step}
use Rattle.points.specs.Walk.{visits, At, Steps}

-- The words before the step have the walk's points, the others are as they were.
pub record Uniting (k : Walk) (before after : List ℕ) (s : Step) : Type 0 where
  pub at' : At k s
  pub long : length after ≡ length before
  pub done : (x : ℕ) → x / 64 < 16 → x / 64 < s.word → in_set after x ≡ (in_set before x || visits k x)
  pub rest : (w : ℕ) → s.word ≤ w → get_or after w 0 ≡ get_or before w 0

pub uniting_more : {k : Walk} {before after : List ℕ} {s t : Step} → Uniting k before after s → length before ≡ 16 → s.word < 16 → Steps k (s.word + 1) t
    → Uniting k before (set after s.word (bit_or (get_or after s.word 0) s.mask)) t
uniting_more {k} {before} {after} {s} {t} h size l q =
    record {
      at' = q.at';
      long = length-set after s.word word ∙ h.long;
      done = λ x u v. go x u v (ℕ_discrete (x / 64) s.word) (dec_lt (x / 64) s.word);
      rest = λ w g. get_or-set_other after s.word w word 0 (λ e. omega (arith, q.later)) ∙ h.rest w (omega (arith, q.later));
    }
  where
    word : ℕ
    word = bit_or (get_or after s.word 0) s.mask

    -- A point of another word.
    kept : (x : ℕ) → ¬ (x / 64 ≡ s.word) → in_set (set after s.word word) x ≡ in_set after x
    kept x ne = ap (λ (y : ℕ). eqb (bit y (x % 64)) 1) (get_or-set_other after s.word (x / 64) word 0 ne)

    go : (x : ℕ) → x / 64 < 16 → x / 64 < t.word → Dec (x / 64 ≡ s.word) → Dec (x / 64 < s.word)
        → in_set (set after s.word word) x ≡ (in_set before x || visits k x)
    go x u v (yes e) d =
        ap (λ (y : ℕ). eqb (bit y (x % 64)) 1) (ap (λ (w : ℕ). get_or (set after s.word word) w 0) e ∙ get_or-set_same after s.word word 0 (omega (arith, h.long)))
        ∙ or_test (get_or after s.word 0) s.mask (x % 64)
        ∙ ap₂ ◌||◌ (ap (λ (y : ℕ). eqb (bit y (x % 64)) 1) (h.rest s.word (omega arith) ∙ ap (λ (w : ℕ). get_or before w 0) (sym e))) (h.at'.bits l x e)
    go x u v (no ne) (yes d) = kept x ne ∙ h.done x u d
    go x u v (no ne) (no d) =
        kept x ne ∙ ap (λ (y : ℕ). eqb (bit y (x % 64)) 1) (h.rest (x / 64) (omega (arith, d)))
        ∙ sym (or-false (in_set before x)) ∙ ap (λ (b : Bool). in_set before x || b) (sym (q.gap x (omega (arith, ne, d)) v u))
