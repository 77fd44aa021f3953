-- The bits of a number of ones.
use mathlib.Core.Path.{◌≡◌, ap, ◌∙◌}
use mathlib.Core.Bool.{true, false}
use Prim.Native.Nat.{ℕ, zero, suc, ◌+◌, ◌-◌, ◌*◌, ◌/◌, ◌%◌, ◌^◌, ◌<◌}
use native.Mathlib.Nat.{pow-suc}
use native.Mathlib.Omega.{arith}
use lib.Dec.{eqb, ltb, lt→ltb, ltb→lt, eqb→eq}
use lib.Pow.{pow_pos}
use Rattle.hazard.specs.Cube.{bit}
use Rattle.hazard.proofs.Test.{bool_ext, is, so}
use Rattle.hazard.proofs.Point.{bit-zero, bit-suc}

-- Two comparisons that say the same.
ltb-same : (a b c d : ℕ) → (a < b → c < d) → (c < d → a < b) → ltb a b ≡ ltb c d
ltb-same a b c d f g = bool_ext (ltb a b) (ltb c d) (λ t. lt→ltb c d (f (ltb→lt a b t))) (λ t. lt→ltb a b (g (ltb→lt c d t)))

-- Bit t of m ones.
ones_test : (m t : ℕ) → eqb (bit (2 ^ m - 1) t) 1 ≡ ltb t m
ones_test zero t = ap (λ (y : ℕ). eqb y 1) (zeros t) ∙ bool_ext false (ltb t 0) (λ u. absurd u) (λ u. absurd (omega (arith, ltb→lt t 0 u)))
  where
    zeros : (t : ℕ) → bit 0 t ≡ 0
    zeros zero = bit-zero 0
    zeros (suc t) = bit-suc 0 t ∙ zeros t
ones_test (suc m) zero =
    let e : (2 ^ suc m - 1) % 2 ≡ 1 = omega (arith, pow-suc 2 m, pow_pos m) in
    ap (λ (y : ℕ). eqb y 1) (bit-zero (2 ^ suc m - 1) ∙ e) ∙ bool_ext true (ltb 0 (suc m)) (λ u. lt→ltb 0 (suc m) (omega arith)) (λ u. tt)
ones_test (suc m) (suc t) =
    let e : (2 ^ suc m - 1) / 2 ≡ 2 ^ m - 1 = omega (arith, pow-suc 2 m, pow_pos m) in
    ap (λ (y : ℕ). eqb y 1) (bit-suc (2 ^ suc m - 1) t ∙ ap (λ (y : ℕ). bit y t) e) ∙ ones_test m t ∙ ltb-same t m (suc t) (suc m) (λ h. omega arith) (λ h. omega arith)

-- A word of m ones, at its place in the set.
pub ones-word : (count b m : ℕ) → ((t : ℕ) → t < 64 → t < m → 64 * b + t < count) → ((t : ℕ) → t < 64 → 64 * b + t < count → t < m)
    → (t : ℕ) → t < 64 → eqb (bit (2 ^ m - 1) t) 1 ≡ ltb (64 * b + t) count
ones-word count b m f g t l = ones_test m t ∙ ltb-same t m (64 * b + t) count (f t l) (g t l)

-- Every bit of 2^m - 1 below m is 1.
pub ones_bit : (m t : ℕ) → t < m → bit (2 ^ m - 1) t ≡ 1
ones_bit m t h = eqb→eq (bit (2 ^ m - 1) t) 1 (so (ones_test m t ∙ is (lt→ltb t m h)))
