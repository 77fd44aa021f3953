-- The places of the columns' words: runs of m words one after another, word b of run k at m * k + b.
use mathlib.Core.Path.{◌≡◌, sym, ap, ◌∙◌}
use mathlib.Core.List.{List}
use Prim.Native.Nat.{ℕ, suc, ◌+◌, ◌*◌, ◌/◌, ◌%◌, ◌≤◌, ◌<◌}
use native.Mathlib.Nat.{mul-suc, mul-le-mul_left, mul-add-div, mul-add-mod_self_left, mod-eq_of_lt, div-eq_of_lt}
use native.Mathlib.Omega.{arith}
use lib.ListN.{length}
use Rattle.blocks.specs.Blocks.{stride, run_of}

-- The first words of one of 30 runs lie in the room of 30 runs.
pub run_fits : (m k : ℕ) {c : ℕ} → k < 30 → c ≤ m → m * k + c ≤ 30 * m
run_fits m k l h = omega (arith, h, mul-suc m k, mul-le-mul_left {m = suc k} {n = 30} m l)

-- The first words of the run of input i and digit d lie in the columns.
pub run_room : (columns : List ℕ) (i d count : ℕ) {words at : ℕ} → words ≡ stride columns → at ≡ run_of words i d → i < 10 → d < 3 → count ≤ stride columns → at + count ≤ length columns
run_room columns i d count {words} e f p q l = omega (arith, run_fits words (3 * i + d) {c = count} (omega arith) (omega (arith, e, l)), e, f)

-- A place tells its run and its word.
pub place_same : (m k l : ℕ) {a b : ℕ} → a < m → b < m → m * k + a ≡ m * l + b → (k ≡ l) × (a ≡ b)
place_same m k l {a} {b} p q e = (run k a p ∙ ap (λ (y : ℕ). y / m) e ∙ sym (run l b q), word k a p ∙ ap (λ (y : ℕ). y % m) e ∙ sym (word l b q))
  where
    run : (k a : ℕ) → a < m → k ≡ (m * k + a) / m
    run k a p = let z : a / m ≡ 0 = div-eq_of_lt p in omega (arith, mul-add-div {m = m} (omega arith) k a, z)

    word : (k a : ℕ) → a < m → a ≡ (m * k + a) % m
    word k a p = sym (mul-add-mod_self_left m k a ∙ mod-eq_of_lt p)
