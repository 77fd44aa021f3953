-- The privileged cubes that a cube meets illegally, by the columns.
use mathlib.Core.Path.{◌≡◌, refl, sym, ap, ap₂, ◌∙◌}
use mathlib.Core.Bool.{Bool, true, false, not, ◌&&◌}
use mathlib.Core.List.{List}
use Prim.Native.Nat.{ℕ, ◌+◌, ◌*◌, ◌/◌, ◌%◌, ◌≤◌, ◌<◌}
use native.Mathlib.Numerals.{add-one}
use native.Mathlib.Omega.{arith}
use lib.Bits.{bit_and, bit_xor}
use lib.Dec.{eqb, ltb, ltb→lt}
use lib.ListN.{length, get_or, length-take}
use Rattle.hazard.specs.Cube.{bit}
use Rattle.hazard.specs.Implicant.{illegal}
use Rattle.hazard.proofs.Test.{so}
use Rattle.cube.specs.Mask.{digit_at, cube_of}
use Rattle.cube.specs.Entry.{privileged_in}
use Rattle.cube.specs.declared.mask.Cube.{Cube}
use Rattle.cube.proofs.WordMask.{both_test, less_test}
use Rattle.columns.proofs.Relating.{and-true, and_assoc}
use Rattle.blocks.specs.Blocks.{stride, run_of, word_at, allowed, allowed_to}
use Rattle.context.specs.declared.context.Context.{Context}
use Rattle.context.specs.Context.{privileged_words}
use Rattle.legality.specs.Rows.{Rows}

-- r is the set of the first `count` rows, as far as they allow the digits of the inputs below i.
pub record Narrowed (columns : List ℕ) (c : Cube) (count i r : ℕ) : Type 0 where
  pub is : (k : ℕ) → k < 64 → eqb (bit r k) 1 ≡ (ltb k count && allowed_to columns k c i)

pub narrowed_start : (columns : List ℕ) (c : Cube) {count size r : ℕ} → size ≡ count → ((t : ℕ) → t < 64 → eqb (bit r t) 1 ≡ ltb (64 * 0 + t) size) → Narrowed columns c count 0 r
narrowed_start columns c {count} same h =
    record { is = λ k l. let e : 64 * 0 + k ≡ k = omega arith in h k l ∙ ap₂ ltb e same ∙ and-true (ltb k count) }

narrowed_step : {columns : List ℕ} {c : Cube} {count i r w : ℕ} → Narrowed columns c count i r → w ≡ word_at columns i (digit_at c i) 0 → Narrowed columns c count (i + 1) (bit_and r w)
narrowed_step {columns} {c} {count} {i} {r} {w} s e =
    record {
      is = λ k l. both_test r w k ∙ ap₂ ◌&&◌ (s.is k l) (here k l) ∙ and_assoc (ltb k count) (allowed_to columns k c i) (allowed columns k i (digit_at c i)) ∙ ap (λ (j : ℕ). ltb k count && allowed_to columns k c j) (sym (add-one i));
    }
  where
    here : (k : ℕ) → k < 64 → eqb (bit w k) 1 ≡ allowed columns k i (digit_at c i)
    here k l =
        let q : 0 ≡ k / 64 = omega arith in
        let p : k ≡ k % 64 = omega arith in
        ap (λ (y : ℕ). eqb (bit y k) 1) (e ∙ ap (word_at columns i (digit_at c i)) q) ∙ ap (λ (j : ℕ). eqb (bit (word_at columns i (digit_at c i) (k / 64)) j) 1) p

-- A turn of the loop: the word that the code reads for input i, in columns with one word in each run.
pub column_step : {columns : List ℕ} {c : Cube} {count i d at r : ℕ} → length columns ≡ 30 → d ≡ digit_at c i → at ≡ run_of 1 i d → Narrowed columns c count i r → Narrowed columns c count (i + 1) (bit_and r (get_or columns at 0))
column_step {columns} {c} {i = i} {at = at} long e f t =
    let one : 1 ≡ stride columns = omega (arith, long) in
    let p : at ≡ run_of 1 i (digit_at c i) + 0 = omega (arith, e, f) in
    narrowed_step t (ap (λ (q : ℕ). get_or columns q 0) p ∙ ap (λ (words : ℕ). get_or columns (run_of words i (digit_at c i) + 0) 0) one)

module _ (k : Context) where
  -- A word has room for the privileged cubes.
  pub few_rows : length (privileged_words k) ≤ 64
  few_rows = omega (arith, length-take k.count k.privileged, k.few)

  -- The rows that are met, without those whose start point is contained.
  pub illegal_are : (c : Cube) {m h : ℕ} → Narrowed k.meets c (length (privileged_words k)) k.n.count m → Narrowed k.starts c (length (privileged_words k)) k.n.count h
      → Rows (λ v. illegal (cube_of k.n.count c) (privileged_in k.n.count v)) (privileged_words k) (bit_xor m (bit_and m h))
  illegal_are c {m} {h} p q = record { is = λ i l. less_test m h i ∙ ap₂ (λ (a b : Bool). a && not b) (p.is i l) (q.is i l) ∙ row i (ltb i (length (privileged_words k))) refl }
    where
      row : (i : ℕ) (b : Bool) → ltb i (length (privileged_words k)) ≡ b → ((b && allowed_to k.meets i c k.n.count) && not (b && allowed_to k.starts i c k.n.count)) ≡ (b && illegal (cube_of k.n.count c) (privileged_in k.n.count (get_or (privileged_words k) i 0)))
      row i true e = let l = ltb→lt i (length (privileged_words k)) (so e) in ap₂ (λ (a b : Bool). a && not b) (k.meeting.is i l c) (k.starting.is i l c)
      row i false e = refl
