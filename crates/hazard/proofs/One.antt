-- Every 1 of the table lies in some required cube.
use mathlib.Core.Path.{◌≡◌, refl}
use mathlib.Core.Logic.{inl, inr}
use mathlib.Core.List.{List, Memᴰ}
use Prim.Native.Nat.{ℕ, ◌^◌, ◌<◌}
use native.Mathlib.Omega.{arith}
use lib.Dec.{T}
use Rattle.hazard.specs.Search.{those}
use Rattle.hazard.specs.Cube.{has, span}
use Rattle.hazard.specs.Transition.{value, start, end, count, visits, visited, Kind, low, rise, fall, high}
use Rattle.hazard.specs.Sets.{Required, maximal_label, labels, start_point, kind_at, required}
use Rattle.hazard.specs.Refusal.{Accepted}
use Rattle.hazard.proofs.Test.{tests, known, eqb_of}
use Rattle.hazard.proofs.Search.{those_i}
use Rattle.hazard.proofs.Cube.{→has, span_left}
use Rattle.hazard.proofs.Point.{In, in_e, in_i, in_swap}
use Rattle.hazard.proofs.Sets.{visited_e, labels_at, required_at, point_at, transition_i, point_i, required-transition, required-point}
use Rattle.hazard.proofs.Rules.{RulesAt, rules_at}
use Rattle.hazard.proofs.Label.{label_of}

-- On the way from s to e, a 1 lies in [s,y] for a label y.
on_way : (n : ℕ) (f : List ℕ) (s e x : ℕ) → x < 2 ^ n → In n s e x → value f x ≡ 1
    → (y : ℕ) × Memᴰ y (those (maximal_label n f s e) 0 (2 ^ n)) × T (has (span n s y) x)
on_way n f s e x l r v =
    let (y, h, t, g) = label_of n f s e x l r v in
    (y, those_i (maximal_label n f s e) 0 (2 ^ n) y (omega arith) (omega arith) t, in_i n s y x g)

-- A 1 of [A,B] lies in a required cube of the transition from a to b.
one_at_lem : (n : ℕ) (f : List ℕ) (a b : ℕ) (k : Kind) → RulesAt n f a b k → (x : ℕ) → x < 2 ^ n → T (has (span n a b) x) → value f x ≡ 1
    → (y : ℕ) × Memᴰ y (labels n f k a b) × T (has (span n (start_point k a b) y) x)
one_at_lem n f a b low h x l t v = absurd (h.kept x l t (eqb_of v))
one_at_lem n f a b rise h x l t v = on_way n f b a x l (in_swap n a b x (in_e n a b x t)) v
one_at_lem n f a b fall h x l t v = on_way n f a b x l (in_e n a b x t) v
one_at_lem n f a b high h x l t v = (b, Memᴰ.head refl, t)

module _ (n : ℕ) (f ts : List ℕ) (accepted : Accepted n f ts) where
  -- A 1 that transition k visits lies in one of its required cubes,
  pub visited-one : (k : ℕ) → k < count ts → (x : ℕ) → x < 2 ^ n → T (visits n ts k x) → value f x ≡ 1
      → (y : ℕ) × Memᴰ y (labels_at n f ts k) × T (has (required_at n f ts k y).cube x)
  visited-one k l = one_at_lem n f (start ts k) (end ts k) (kind_at f ts k) (rules_at n f ts accepted k l)

  -- and one that none visits is a required cube of its own.
  pub one-required : (x : ℕ) → x < 2 ^ n → value f x ≡ 1 → (r : Required) × Memᴰ r (required n f ts) × T (has r.cube x)
  one-required x l v = elim (known (visited n ts x)) [
    | inl t ↦ let (k, h, u) = visited_e n ts x t in
        let (y, m, w) = visited-one k h x l u v in
        (required_at n f ts k y, required-transition n f ts (transition_i n f ts k y h m), w)
    | inr t ↦ (point_at n ts x, required-point n f ts (point_i n f ts x l (simp tests (v, t))), →has (span_left n x x))
  ]
