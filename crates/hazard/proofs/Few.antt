-- A transition that moves at most five inputs has at most 32 required cubes, and a problem at most 3,072: check 8 never finds anything.
use mathlib.Core.Path.{◌≡◌, refl, sym, ap, ◌∙◌}
use mathlib.Core.Bool.{Bool}
use mathlib.Core.List.{List, [], ◌∷◌, ◌++◌, Memᴰ}
use Rattle.std.specs.Prelude.{Option, None, Some}
use Prim.Native.Nat.{ℕ, zero, suc, ◌+◌, ◌*◌, ◌^◌, ◌≤◌, ◌<◌}
use native.Mathlib.Omega.{arith}
use lib.ListN.{length, length-append, length-map}
use lib.Pow.{pow_mono}
use borrow.Author.Tests.{le-ltb}
use Rattle.hazard.specs.Limits.{most_moving, most_required}
use Rattle.hazard.specs.Search.{those, first_of}
use Rattle.hazard.specs.Cube.{distance}
use Rattle.hazard.specs.Transition.{start, end, count, Kind, low, rise, fall, high}
use Rattle.hazard.specs.Sets.{maximal_label, labels, kind_at, unvisited, required_of, required_from, of_transitions, of_points, required}
use Rattle.hazard.specs.Refusal.{Refusal, refuse_if, inputs_check, many_check, table_checks, list_checks, points_checks, input_checks, Accepted}
use Rattle.hazard.proofs.Test.{T_and}
use Rattle.hazard.proofs.Search.{first_of-none, entries, first_of-left, first_of-right}
use Rattle.hazard.proofs.Counting.{those-few}
use Rattle.hazard.proofs.Point.{span_swap}
use Rattle.hazard.proofs.Rules.{inputs-few, list_few, bursts_narrow, narrow}
use Rattle.hazard.proofs.Sets.{labels_at, required_at, point_at}
use Rattle.hazard.proofs.Burst.{burst_few}

-- A label is a point of [A,B].
labels-few : (n : ℕ) (f : List ℕ) (k : Kind) (a b : ℕ) → distance n a b ≤ most_moving → length (labels n f k a b) ≤ 32
labels-few n f low a b l = omega arith
labels-few n f rise a b l = burst_few n a b l (maximal_label n f b a) (λ x t. span_swap n b a x (simp T_and at t).0)
labels-few n f fall a b l = burst_few n a b l (maximal_label n f a b) (λ x t. (simp T_and at t).0)
labels-few n f high a b l = omega arith

-- So each of the transitions has at most 32 required cubes,
module _ (n : ℕ) (f ts : List ℕ) (narrow : (k : ℕ) → k < count ts → distance n (start ts k) (end ts k) ≤ most_moving) where
  pub transition-few : (k : ℕ) → k < count ts → length (required_of n f ts k) ≤ 32
  transition-few k l = omega (arith, length-map (labels_at n f ts k) (required_at n f ts k), labels-few n f (kind_at f ts k) (start ts k) (end ts k) (narrow k l))

  -- m of them have at most 32 m,
  pub transitions-few : (k m : ℕ) → k + m ≤ count ts → length (required_from n f ts k m) ≤ 32 * m
  transitions-few k zero l = omega arith
  transitions-few k (suc m) l = omega (arith, length-append (required_of n f ts k) (required_from n f ts (suc k) m), transition-few k (omega arith), transitions-few (suc k) m (omega arith))

  -- and with the single points there are never more than the limit.
  pub all_few : n ≤ 10 → count ts ≤ 64 → length (required n f ts) ≤ most_required
  all_few small few =
      omega (
        arith,
        length-append (of_transitions n f ts) (of_points n f ts),
        transitions-few 0 (count ts) (omega arith),
        length-map (those (unvisited n f ts) 0 (2 ^ n)) (point_at n ts),
        those-few (unvisited n f ts) 0 (2 ^ n),
        pow_mono {j = 10} small,
      )

-- The input rules before check 8.
abbrev pub rule_checks : ℕ → List ℕ → List ℕ → List (Option Refusal)
rule_checks n f ts = (inputs_check n ∷ []) ++ (table_checks n f ++ (list_checks n ts ++ points_checks n f ts))

module _ (n : ℕ) (f ts : List ℕ) where
  -- What they let through has no more required cubes than the limit,
  rules_few : first_of (rule_checks n f ts) ≡ None → length (required n f ts) ≤ most_required
  rules_few e =
      all_few n f ts (bursts_narrow n ts (passes (search entries depth 20))) (inputs-few n (passes (search entries depth 20))).1 (list_few ts (passes (search entries depth 20))).1
    where
      passes : {o : Option Refusal} → Memᴰ o (rule_checks n f ts) → o ≡ None
      passes = first_of-none (rule_checks n f ts) e

  -- so check 8 finds nothing, and the first of the input rules that applies is the first of those before it.
  pub many_never : first_of (input_checks n f ts) ≡ first_of (rule_checks n f ts)
  many_never = go (first_of (rule_checks n f ts)) refl
    where
      go : (o : Option Refusal) → first_of (rule_checks n f ts) ≡ o → first_of (input_checks n f ts) ≡ o
      go (Some q) e = first_of-left (rule_checks n f ts) (many_check n f ts ∷ []) e
      go None e =
          first_of-right (rule_checks n f ts) (many_check n f ts ∷ []) e
          ∙ ap (λ (b : Bool). first_of (refuse_if b 8 ∷ [])) (le-ltb most_required (length (required n f ts)) (rules_few e))

  -- So each transition of an accepted problem has at most 32 required cubes, and the problem no more than the limit.
  pub accepted_few : Accepted n f ts → (k : ℕ) → k < count ts → length (required_of n f ts k) ≤ 32
  accepted_few a = transition-few n f ts (narrow n f ts a)

  pub required-few : Accepted n f ts → length (required n f ts) ≤ most_required
  required-few a = rules_few (sym many_never ∙ a)
