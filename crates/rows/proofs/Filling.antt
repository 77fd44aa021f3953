-- The loop that writes the words of a whole set: a word more is that of the set of the first rows.
use mathlib.Core.Path.{◌≡◌, ap, ◌∙◌}
use mathlib.Core.List.{List}
use Prim.Native.Nat.{ℕ, ◌+◌, ◌*◌, ◌/◌, ◌%◌, ◌<◌}
use native.Mathlib.Omega.{arith}
use native.Mathlib.Decide.{ℕ_discrete}
use lib.Dec.{eqb, ltb}
use lib.ListN.{length, get_or, set}
use lib.Seq.{get_or-set_same, get_or-set_other}
use Rattle.hazard.specs.Cube.{bit}
use Rattle.cube.specs.PointSet.{in_set}

pub filling_step : (count : ℕ) (new : List ℕ) (b : ℕ) → ((k : ℕ) → k < 64 * b → in_set new k ≡ ltb k count) → b < length new → (w : ℕ)
    → ((t : ℕ) → t < 64 → eqb (bit w t) 1 ≡ ltb (64 * b + t) count) → (k : ℕ) → k < 64 * (b + 1) → in_set (set new b w) k ≡ ltb k count
filling_step count new b s l w h k a =
    elim (ℕ_discrete (k / 64) b) [ yes e ↦ here k e | no e ↦ ap (λ (v : ℕ). eqb (bit v (k % 64)) 1) (get_or-set_other new b (k / 64) w 0 e) ∙ s k (omega arith) ]
  where
    here : (k : ℕ) → k / 64 ≡ b → in_set (set new b w) k ≡ ltb k count
    here k e =
        let q : 64 * b + k % 64 ≡ k = omega arith in
        ap (λ (v : ℕ). eqb (bit v (k % 64)) 1) (ap (λ (y : ℕ). get_or (set new b w) y 0) e ∙ get_or-set_same new b w 0 l) ∙ h (k % 64) (omega arith) ∙ ap (λ (y : ℕ). ltb y count) q
