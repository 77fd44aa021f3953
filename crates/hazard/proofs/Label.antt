-- The way further: on the way from s to e, every 1 leads to a label.
use mathlib.Core.Path.{◌≡◌}
use mathlib.Core.Logic.{inl, inr}
use mathlib.Core.List.{List}
use Prim.Native.Nat.{ℕ, zero, suc, ◌+◌, ◌^◌, ◌<◌}
use native.Mathlib.Omega.{arith}
use native.Mathlib.Decide.{dec_lt}
use lib.Dec.{T}
use Rattle.hazard.specs.Cube.{bit, flip, has, span}
use Rattle.hazard.specs.Transition.{value, further}
use Rattle.hazard.specs.Sets.{maximal_label}
use Rattle.hazard.proofs.Test.{tests, known}
use Rattle.hazard.proofs.Cube.{Inside, has→, →has, inside-has, span-digits, span_left, span_right, span_least, fixed, fixed-le, inside_tight}
use Rattle.hazard.proofs.Point.{bit-lt, In, in_e, in_i, flip-same, flip-lt}
use Rattle.hazard.proofs.Monotone.{Moves, move_in, move_rest, move_past, further_e}

module _ (n : ℕ) (f : List ℕ) (s e : ℕ) where
  -- After a move the cube from the point to e lies strictly inside what it was, so it fixes more inputs.
  move_fixed : {x i : ℕ} → Moves n s e x i → fixed (span n x e) < fixed (span n (flip x i) e)
  move_fixed {x} {i} m = elim (dec_lt (fixed (span n x e)) (fixed (span n (flip x i) e))) [
    | yes h ↦ h
    | no h ↦ absurd (apart (in_e n (flip x i) e x (→has (inside-has (inside_tight smaller (omega arith)) (span_left n x e)))))
  ]
    where
      smaller : Inside (span n (flip x i) e) (span n x e)
      smaller = span_least (span-digits n x e) (has→ (span n x e) (flip x i) (in_i n x e (flip x i) (move_rest m))) (span_right n x e)

      apart : ¬ In n (flip x i) e x
      apart h =
          let g = flip-same x i in
          let c : bit (flip x i) i ≡ bit e i = omega (arith, m.early, m.differs, bit-lt x i, bit-lt s i, bit-lt e i) in
          let z = h i m.input c in omega (arith, bit-lt x i)

  climb : (fuel x : ℕ) → n < fuel + fixed (span n x e) → x < 2 ^ n → In n s e x → value f x ≡ 1 → (y : ℕ) × (y < 2 ^ n) × T (maximal_label n f s e y) × In n s y x
  climb zero x h l r v = absurd (omega (arith, fixed-le (span-digits n x e)))
  climb (suc fuel) x h l r v =
      elim (known (further n f s e x 1)) [
        | inr t ↦ (x, l, simp tests (in_i n s e x r, (v, t)), λ i u c. c)
        | inl t ↦ let (i, m, w) = further_e n f s e x 1 t in
            let (y, k, q, g) = climb fuel (flip x i) (omega (arith, move_fixed m)) (flip-lt n x i l m.input) (move_in m r) w in
            (y, k, q, λ j u c. move_past m j u (g j u c))
      ]

  -- Every 1 of [s,e] lies in [s,y] for a label y.
  pub label_of : (x : ℕ) → x < 2 ^ n → In n s e x → value f x ≡ 1 → (y : ℕ) × (y < 2 ^ n) × T (maximal_label n f s e y) × In n s y x
  label_of x = climb (suc n) x (omega arith)

  -- A label is a 1 of [s,e].
  pub label-one : (x : ℕ) → T (maximal_label n f s e x) → T (has (span n s e) x) × (value f x ≡ 1)
  label-one x t = let r = simp tests at t in (r.0, r.1.0)
