-- The bits of a column.
use mathlib.Core.Path.{◌≡◌, refl, ap, ◌∙◌}
use mathlib.Core.List.{List, [], ◌∷◌, ◌++◌, reverse}
use Prim.Native.Nat.{ℕ, zero, suc, ◌*◌, ◌/◌, ◌%◌, ◌^◌, ◌≤◌, ◌<◌}
use native.Mathlib.Nat.{not-suc-le-zero, le_of_suc-le-suc, mod-lt, mod-eq_of_lt, pow-suc}
use native.Mathlib.Omega.{arith}
use lib.ListN.{length, get_or}
use lib.Bits.{bit_and, bit_or}
use lib.Pow.{pow_mono}
use Rattle.std.proofs.lemmas.List.{length_push, length-reverse, reverse-append}
use Rattle.std.proofs.lemmas.Nat.{and_mask, or_shifted}
use Rattle.hazard.specs.Cube.{bit}
use Rattle.hazard.proofs.Point.{bit-zero, bit-suc, bit-lt}
use Rattle.columns.specs.Column.{column_of}

pub column_lt : (b : ℕ) (ws : List ℕ) → column_of b ws < 2 ^ length ws
unfolding column_of
column_lt b [] = omega arith
column_lt b (w ∷ ws) = omega (arith, column_lt b ws, pow-suc 2 (length ws), bit-lt w b)

pub column_bit : (b : ℕ) (ws : List ℕ) (k : ℕ) → k < length ws → bit (column_of b ws) k ≡ bit (get_or ws k 0) b
unfolding column_of
column_bit b [] k h = absurd (not-suc-le-zero h)
column_bit b (w ∷ ws) zero h = bit-zero (column_of b (w ∷ ws)) ∙ omega (arith, bit-lt w b)
column_bit b (w ∷ ws) (suc k) h =
    let e : column_of b (w ∷ ws) / 2 ≡ column_of b ws = omega (arith, bit-lt w b) in
    bit-suc (column_of b (w ∷ ws)) k ∙ ap (λ (y : ℕ). bit y k) e ∙ column_bit b ws k (le_of_suc-le-suc h)

-- A bit more, where 64 words are not passed.
pub column_more : (b : ℕ) (ws : List ℕ) (w a : ℕ) → (length ws ≤ 64 → a ≡ column_of b (reverse ws)) → length (ws ++ (w ∷ [])) ≤ 64
    → bit_or (a * 2 ^ 1 % 2 ^ 64) (bit_and (w / 2 ^ b) 1) ≡ column_of b (reverse (ws ++ (w ∷ [])))
unfolding column_of
column_more b ws w a h l =
    let shorter : length ws < 64 = omega (arith, length_push ws w) in
    let small : a < 2 ^ 63 = omega (arith, h (omega arith), column_lt b (reverse ws), length-reverse ws, pow_mono {i = length (reverse ws)} {j = 63} (omega (arith, length-reverse ws))) in
    let room : a * 2 ^ 1 % 2 ^ 64 ≡ a * 2 ^ 1 = mod-eq_of_lt (omega arith) in
    rw (reverse-append ws (w ∷ []), room, and_mask (w / 2 ^ b) 1, or_shifted a 1 (w / 2 ^ b % 2) (mod-lt (w / 2 ^ b) (omega arith)), h (omega arith)) refl
