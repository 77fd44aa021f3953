-- The rows that a set is left with, and those that are taken from it.
use mathlib.Core.Path.{◌≡◌, refl, ap, ◌∙◌}
use mathlib.Core.Bool.{Bool, true, false, not, ◌&&◌}
use mathlib.Core.List.{List}
use Prim.Native.Nat.{ℕ, ◌*◌, ◌/◌, ◌%◌, ◌<◌}
use native.Mathlib.Omega.{arith}
use lib.Bits.{bit_and, bit_xor}
use lib.Dec.{eqb}
use lib.ListN.{length, get_or}
use Rattle.hazard.specs.Cube.{bit}
use Rattle.cube.specs.PointSet.{in_set}
use Rattle.cube.proofs.WordMask.{less_test}
use Rattle.rows.specs.Sets.{Split}

without_both : (a b : Bool) → (a && not (a && b)) ≡ (a && not b)
without_both true b = refl
without_both false b = refl

module _ (test : ℕ → Bool) (before copy taken after : List ℕ) (same : copy ≡ before) (long : length taken ≡ length copy) where
  pub split_is : ((k : ℕ) → k < 64 * length copy → in_set taken k ≡ (in_set copy k && test k))
      → ((b : ℕ) → b < length taken → get_or after b 0 ≡ bit_xor (get_or before b 0) (bit_and (get_or before b 0) (get_or taken b 0)))
      → Split test before after taken
  split_is t r =
      record {
        long = long ∙ ap length same;
        took = took;
        left = λ k a.
            ap (λ (w : ℕ). eqb (bit w (k % 64)) 1) (r (k / 64) (omega (arith, ap length same, long)))
            ∙ less_test (get_or before (k / 64) 0) (get_or taken (k / 64) 0) (k % 64)
            ∙ ap (λ (b : Bool). in_set before k && not b) (took k a)
            ∙ without_both (in_set before k) (test k);
      }
    where
      took : (k : ℕ) → k < 64 * length before → in_set taken k ≡ (in_set before k && test k)
      took k a = t k (omega (arith, ap length same)) ∙ ap (λ (l : List ℕ). in_set l k && test k) same
