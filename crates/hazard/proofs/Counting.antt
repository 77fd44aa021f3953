-- How many numbers pass a test.
use mathlib.Core.Path.{◌≡◌, refl, ap}
use mathlib.Core.Bool.{Bool, true, false, cond}
use mathlib.Core.List.{◌∷◌}
use Prim.Native.Nat.{ℕ, zero, suc, ◌+◌, ◌*◌, ◌≤◌}
use native.Mathlib.Nat.{zero-add}
use native.Mathlib.Omega.{arith}
use lib.Dec.{T}
use lib.ListN.{length}
use Rattle.hazard.specs.Search.{those}
use Rattle.hazard.proofs.Test.{isnt}

-- One, or none.
abbrev tick : Bool → ℕ
tick b = cond b 1 0

those_step : (test : ℕ → Bool) (from size : ℕ) → length (those test from (suc size)) ≡ tick (test from) + length (those test (suc from) size)
those_step test from size = go (test from)
  where
    go : (b : Bool) → length {A = ℕ} (elim b [ true ↦ from ∷ those test (suc from) size | false ↦ those test (suc from) size ]) ≡ tick b + length (those test (suc from) size)
    go true = omega arith
    go false = omega arith

-- No more pass than there are numbers.
pub those-few : (test : ℕ → Bool) (from size : ℕ) → length (those test from size) ≤ size
those-few test from zero = omega arith
those-few test from (suc size) = omega (arith, those_step test from size, tick_le (test from), those-few test (suc from) size)
  where
    tick_le : (b : Bool) → tick b ≤ 1
    tick_le true = omega arith
    tick_le false = omega arith

-- None, where no number passes.
pub those-none : (test : ℕ → Bool) (from size : ℕ) → ((x : ℕ) → ¬ T (test x)) → length (those test from size) ≡ 0
those-none test from zero h = refl
those-none test from (suc size) h = let e = ap tick (isnt (test from) (h from)) in omega (arith, those_step test from size, those-none test (suc from) size h)

-- The even numbers that pass, and the odd ones.
pub those_halves : (test : ℕ → Bool) (from size : ℕ) → length (those test (2 * from) (2 * size)) ≡ length (those (λ y. test (0 + 2 * y)) from size) + length (those (λ y. test (1 + 2 * y)) from size)
those_halves test from zero = refl
those_halves test from (suc size) =
    let p : 2 * suc size ≡ suc (suc (2 * size)) = omega arith in
    let q : suc (suc (2 * from)) ≡ 2 * suc from = omega arith in
    let r : 1 + 2 * from ≡ suc (2 * from) = omega arith in
    omega (
      arith,
      ap (λ (k : ℕ). length (those test (2 * from) k)) p,
      ap (λ (k : ℕ). length (those test k (2 * size))) q,
      ap (λ (k : ℕ). tick (test k)) (zero-add (2 * from)),
      ap (λ (k : ℕ). tick (test k)) r,
      those_step test (2 * from) (suc (2 * size)),
      those_step test (suc (2 * from)) (2 * size),
      those_halves test (suc from) size,
      those_step (λ y. test (0 + 2 * y)) from size,
      those_step (λ y. test (1 + 2 * y)) from size,
    )
