-- The chunks of a network's bytes: the chunk that follows the first m products is product m.
use mathlib.Core.Path.{◌≡◌, sym, ap, ◌∙◌}
use mathlib.Core.Bool.{not}
use mathlib.Core.List.{List, ◌++◌}
use Prim.Native.Nat.{ℕ, ◌+◌, ◌-◌, ◌*◌, ◌/◌, ◌≤◌, ◌<◌}
use native.Mathlib.Nat.{zero-mul, suc-mul}
use native.Mathlib.Numerals.{add-one}
use native.Mathlib.Omega.{arith}
use lib.ListN.{length, take, drop, length-append, length-drop}
use lib.Seq.{take_at, drop_at}
use Rattle.std.proofs.lemmas.List.{drop-drop}
use Rattle.std.proofs.lemmas.Nat.{le-div, div_below}
use Rattle.hazard.specs.Cube.{is_product}
use Rattle.hazard.specs.Cover.{product_at}
use Rattle.hazard.specs.Verdict.{products}
use Rattle.network_bytes.proofs.Bytes.{products_at, bad_at}

next_place : (n m : ℕ) → m * n + n ≡ (m + 1) * n
next_place n m = rw add-one (sym (suc-mul m n))

-- The chunks after the first m are those of the rest.
pub record Cut (n : ℕ) (bytes : List ℕ) (m size : ℕ) (rest : List ℕ) : Type 0 where
  pub size' : size ≡ n
  pub rest' : rest ≡ drop (m * n) bytes

pub cut_start : {n : ℕ} {bytes : List ℕ} {m size : ℕ} {rest : List ℕ} → m ≡ 0 → size ≡ n → rest ≡ bytes → Cut n bytes m size rest
cut_start {n} e s r = record { size' = s; rest' = rw (e, zero-mul n) r }

-- A step of chunks with their places: the place is the count, which rises by one, and the chunk is taken from the rest.
pub chunk_turn : {j m next size size' : ℕ} {rest : List ℕ} (chunk others : List ℕ) {R F : Type 0}
    → ((size' ≡ size) × ((rest ≡ chunk ++ others) × (length chunk ≡ size)) × R) × (j ≡ m) × (next ≡ m + 1) × F
    → (j ≡ m) × (next ≡ m + 1) × (rest ≡ chunk ++ others) × (length chunk ≡ size)
chunk_turn chunk others ((same, (parts, long), rem), is, more, fits) = (is, more, parts, long)

module _ {n : ℕ} {bytes : List ℕ} {m size : ℕ} {rest : List ℕ} (s : Cut n bytes m size rest) (some : 1 ≤ n) where
  module _ (chunk others : List ℕ) (parts : rest ≡ chunk ++ others) (long : length chunk ≡ size) where
    whole : drop (m * n) bytes ≡ chunk ++ others
    whole = sym s.rest' ∙ parts

    pub chunk_long : length chunk ≡ n
    chunk_long = long ∙ s.size'

    pub chunk_low : m < length bytes / n
    chunk_low =
        let l : length chunk + length others ≡ length bytes - m * n = sym (length-append chunk others) ∙ ap (λ (l : List ℕ). length l) (sym whole) ∙ length-drop (m * n) bytes in
        let h : m + 1 ≤ length bytes / n = le-div (m + 1) (length bytes) n (omega arith) (omega (arith, l, next_place n m, chunk_long)) in
        omega arith

    pub chunk_taken : chunk ≡ take n (drop (m * n) bytes)
    chunk_taken = sym (ap (take n) whole ∙ take_at chunk others n chunk_long)

    pub chunk_is : chunk ≡ product_at (products n bytes) m
    chunk_is = chunk_taken ∙ sym (products_at n bytes m chunk_low)

    -- The test of check 12.
    pub chunk_bad : not (is_product (length chunk) chunk) ≡ bad_at n bytes m
    chunk_bad = rw (chunk_long, ← chunk_is)

    pub cut_step : {size' : ℕ} → size' ≡ size → Cut n bytes (m + 1) size' others
    cut_step e = record {
      size' = e ∙ s.size';
      rest' = sym (ap (λ (k : ℕ). drop k bytes) (sym (next_place n m)) ∙ sym (drop-drop n (m * n) bytes) ∙ ap (drop n) whole ∙ drop_at chunk others n chunk_long);
    }

  -- With less than a product left, all have been come to.
  pub cut_end : length rest < size → length bytes / n ≤ m
  cut_end h =
      let l : length bytes / n < m + 1 = div_below (length bytes) n (m + 1) (omega arith) (omega (arith, s.size', ap (λ (l : List ℕ). length l) s.rest', length-drop (m * n) bytes, next_place n m)) in
      omega arith
