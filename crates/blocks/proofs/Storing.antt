-- The loops that store the words of a block, input by input, and of all blocks.
use mathlib.Core.Path.{◌≡◌, refl, sym, ap, ap₂, ◌∙◌}
use mathlib.Core.Logic.{◌≢◌}
use mathlib.Core.Bool.{◌&&◌}
use mathlib.Core.List.{List, ◌++◌}
use Prim.Native.Nat.{ℕ, zero, suc, ◌+◌, ◌*◌, ◌/◌, ◌%◌, ◌≤◌, ◌<◌, min}
use native.Mathlib.Nat.{le_refl}
use native.Mathlib.Decide.{ℕ_discrete}
use native.Mathlib.Omega.{arith}
use lib.Dec.{eqb}
use lib.ListN.{length, get_or, take, drop, set, length-set, length-take, length-drop, drop_of_length-le}
use lib.Seq.{get_or-set_same, get_or-set_other, get_or-take, get_or-drop, take_at, drop_at, take_all}
use Rattle.hazard.specs.Cube.{bit}
use Rattle.cube.specs.Mask.{digit_at}
use Rattle.cube.specs.declared.mask.Cube.{Cube}
use Rattle.columns.specs.Relation.{allows, relates}
use Rattle.columns.specs.Allowing.{AllowedAt}
use Rattle.columns.specs.declared.relation.Relation.{Relation}
use Rattle.columns.specs.declared.relation.Allowed.{Allowed}
use Rattle.columns.proofs.Relating.{upto, relates_upto, digit_lt}
use Rattle.blocks.proofs.Places.{run_fits, place_same}
use Rattle.blocks.specs.Blocks.{stride, run_of, word_at, allowed, allowed_to, Blocks, BlockFilled}

pub block_start : (rel : Relation) (rows : List ℕ) (b : ℕ) (columns : List ℕ) → BlockFilled rel 0 rows b columns columns
block_start rel rows b columns = record { long = refl; is = λ i d k h. absurd (omega arith); others = λ i d a h ne. refl }

-- Three words more, in runs of m words.
abbrev pub stored : ℕ → List ℕ → ℕ → ℕ → Allowed → List ℕ
stored m columns i b w = set (set (set columns (run_of m i 0 + b) w.zero) (run_of m i 1 + b) w.one) (run_of m i 2 + b) w.absent

module _ (m : ℕ) (columns : List ℕ) (i b : ℕ) (w : Allowed) where
  abbrev once : List ℕ
  once = set columns (run_of m i 0 + b) w.zero

  abbrev twice : List ℕ
  twice = set once (run_of m i 1 + b) w.one

  pub stored_length : length (stored m columns i b w) ≡ length columns
  stored_length = length-set twice (run_of m i 2 + b) w.absent ∙ length-set once (run_of m i 1 + b) w.one ∙ length-set columns (run_of m i 0 + b) w.zero

  stored_other : (q : ℕ) → ((t : ℕ) → t < 3 → q ≢ run_of m i t + b) → get_or (stored m columns i b w) q 0 ≡ get_or columns q 0
  stored_other q ne =
      get_or-set_other twice (run_of m i 2 + b) q w.absent 0 (ne 2 (omega arith))
      ∙ get_or-set_other once (run_of m i 1 + b) q w.one 0 (ne 1 (omega arith))
      ∙ get_or-set_other columns (run_of m i 0 + b) q w.zero 0 (ne 0 (omega arith))

  module _ (few : i < 10) (low : b < m) (room : 30 * m ≤ length columns) where
    inside : (t : ℕ) → t < 3 → run_of m i t + b < length columns
    inside t l = omega (arith, run_fits m (3 * i + t) {c = suc b} (omega arith) low, room)

    apart : (s t : ℕ) → s ≢ t → run_of m i s + b ≢ run_of m i t + b
    apart s t ne e = ne (omega (arith, (place_same m (3 * i + s) (3 * i + t) low low e).0))

    stored_zero : get_or (stored m columns i b w) (run_of m i 0 + b) 0 ≡ w.zero
    stored_zero =
        get_or-set_other twice (run_of m i 2 + b) (run_of m i 0 + b) w.absent 0 (apart 0 2 (λ e. omega (arith, e)))
        ∙ get_or-set_other once (run_of m i 1 + b) (run_of m i 0 + b) w.one 0 (apart 0 1 (λ e. omega (arith, e)))
        ∙ get_or-set_same columns (run_of m i 0 + b) w.zero 0 (inside 0 (omega arith))

    stored_one : get_or (stored m columns i b w) (run_of m i 1 + b) 0 ≡ w.one
    stored_one = get_or-set_other twice (run_of m i 2 + b) (run_of m i 1 + b) w.absent 0 (apart 1 2 (λ e. omega (arith, e))) ∙ get_or-set_same once (run_of m i 1 + b) w.one 0 (simp length-set (inside 1 (omega arith)))

    stored_absent : get_or (stored m columns i b w) (run_of m i 2 + b) 0 ≡ w.absent
    stored_absent = get_or-set_same twice (run_of m i 2 + b) w.absent 0 (simp length-set (inside 2 (omega arith)))

-- Columns of the same length have runs of the same length.
at_stride : (columns before : List ℕ) → length columns ≡ length before → (i d b : ℕ) → word_at columns i d b ≡ get_or columns (run_of (stride before) i d + b) 0
at_stride columns before e i d b = ap (λ (l : ℕ). get_or columns (run_of (l / 30) i d + b) 0) e

module _ {rel : Relation} {rows : List ℕ} {b i : ℕ} {before columns : List ℕ} (s : BlockFilled rel i rows b before columns) (w : Allowed) where
  abbrev m : ℕ
  m = stride before

  abbrev next : List ℕ
  next = stored m columns i b w

  pub block_step : b < stride before → i < 10 → AllowedAt rel rows i w → BlockFilled rel (i + 1) rows b before next
  block_step low few a =
      record {
        long = stored_length m columns i b w ∙ s.long;
        is = λ x d k x<i d<3 k<. bit_of x d b k ∙ elim (ℕ_discrete x i) [ yes q ↦ here x d k q d<3 k< | no q ↦ earlier x d k (omega (arith, q)) d<3 k< ];
        others = λ x d y y< ne.
            at_stride next before (stored_length m columns i b w ∙ s.long) x d y
            ∙ stored_other m columns i b w (run_of m x d + y) (λ t l q. ne (place_same m (3 * x + d) (3 * i + t) y< low q).1)
            ∙ sym (at_stride columns before s.long x d y)
            ∙ s.others x d y y< ne;
      }
    where
      bit_of : (x d y k : ℕ) → eqb (bit (word_at next x d y) k) 1 ≡ eqb (bit (get_or next (run_of m x d + y) 0) k) 1
      bit_of x d y k = ap (λ (v : ℕ). eqb (bit v k) 1) (at_stride next before (stored_length m columns i b w ∙ s.long) x d y)

      room : 30 * m ≤ length columns
      room = omega (arith, s.long)

      bit_at : (q v k : ℕ) → get_or next q 0 ≡ v → eqb (bit (get_or next q 0) k) 1 ≡ eqb (bit v k) 1
      bit_at q v k = ap (λ (y : ℕ). eqb (bit y k) 1)

      here : (x d k : ℕ) → x ≡ i → d < 3 → k < length rows → eqb (bit (get_or next (run_of m x d + b) 0) k) 1 ≡ allows rel (get_or rows k 0) x d
      here x zero k q l h = rw q (bit_at (run_of m i 0 + b) w.zero k (stored_zero m columns i b w few low room) ∙ a.zero' k h)
      here x (suc zero) k q l h = rw q (bit_at (run_of m i 1 + b) w.one k (stored_one m columns i b w few low room) ∙ a.one' k h)
      here x (suc (suc zero)) k q l h = rw q (bit_at (run_of m i 2 + b) w.absent k (stored_absent m columns i b w few low room) ∙ a.absent' k h)
      here x (suc (suc (suc d))) k q l h = absurd (omega arith)

      earlier : (x d k : ℕ) → x < i → d < 3 → k < length rows → eqb (bit (get_or next (run_of m x d + b) 0) k) 1 ≡ allows rel (get_or rows k 0) x d
      earlier x d k p l h =
          ap (λ (y : ℕ). eqb (bit y k) 1)
          (stored_other m columns i b w (run_of m x d + b) (λ t r q. let e : 3 * x + d ≡ 3 * i + t = (place_same m (3 * x + d) (3 * i + t) low low q).0 in omega (arith, e, p, l, r))
          ∙ sym (at_stride columns before s.long x d b))
          ∙ s.is x d k p l h

-- A block of the rows that are left, and those after it.
pub block_is : (rest block others : List ℕ) → rest ≡ block ++ others → length block ≡ min 64 (length rest) → (block ≡ take 64 rest) × (others ≡ drop 64 rest)
block_is rest block others e h =
    let t : take (length block) rest ≡ block = ap (take (length block)) e ∙ take_at block others (length block) refl in
    let d : drop (length block) rest ≡ others = ap (drop (length block)) e ∙ drop_at block others (length block) refl in
    elim (ℕ_discrete (length block) 64) [
      | yes q ↦ (sym (rw q at t), sym (rw q at d))
      | no q ↦ (
        sym t ∙ take_all (length block) rest (omega (arith, h, q)) ∙ sym (take_all 64 rest (omega (arith, h, q))),
        sym d ∙ drop_of_length-le rest {i = length block} (omega (arith, h, q)) ∙ sym (drop_of_length-le rest {i = 64} (omega (arith, h, q))),
      )
    ]

-- The rows of the blocks below b have their words.
pub record Filled (rel : Relation) (n : ℕ) (rows columns : List ℕ) (b : ℕ) : Type 0 where
  pub is : (i d k : ℕ) → i < n → d < 3 → k < length rows → k < 64 * b → allowed columns k i d ≡ allows rel (get_or rows k 0) i d

pub filled-start : (rel : Relation) (n : ℕ) (rows columns : List ℕ) → Filled rel n rows columns 0
filled-start rel n rows columns = record { is = λ i d k h l x y. absurd (omega arith) }

module _ {rel : Relation} {n : ℕ} {rows columns : List ℕ} {b : ℕ} (s : Filled rel n rows columns b) where
  pub filled_step : 64 * b < length rows → b < stride columns → (block next : List ℕ) → block ≡ take 64 (drop (64 * b) rows)
      → BlockFilled rel n block b columns next → Filled rel n rows next (b + 1)
  filled_step l m block next e f =
      record {
        is = λ i d k i<n d<3 k< below. elim (ℕ_discrete (k / 64) b) [ yes q ↦ here i d k i<n d<3 k< q | no q ↦ earlier i d k i<n d<3 k< (omega (arith, q, below)) ];
      }
    where
      row : (k : ℕ) → k < length rows → k / 64 ≡ b → (k % 64 < length block) × (get_or block (k % 64) 0 ≡ get_or rows k 0)
      row k h q =
          let p : 64 * b + k % 64 ≡ k = omega (arith, q) in (
            rw e (omega (arith, length-take 64 (drop (64 * b) rows), length-drop (64 * b) rows, q)),
            rw e (get_or-take 64 (drop (64 * b) rows) (k % 64) 0 (omega arith) ∙ get_or-drop (64 * b) rows (k % 64) 0 ∙ ap (λ (y : ℕ). get_or rows y 0) p),
          )

      here : (i d k : ℕ) → i < n → d < 3 → k < length rows → k / 64 ≡ b → allowed next k i d ≡ allows rel (get_or rows k 0) i d
      here i d k x y h q =
          let (j, g) = row k h q in
          ap (λ (a : ℕ). eqb (bit (word_at next i d a) (k % 64)) 1) q ∙ f.is i d (k % 64) x y j ∙ ap (λ (w : ℕ). allows rel w i d) g

      earlier : (i d k : ℕ) → i < n → d < 3 → k < length rows → k < 64 * b → allowed next k i d ≡ allows rel (get_or rows k 0) i d
      earlier i d k x y h z = ap (λ (w : ℕ). eqb (bit w (k % 64)) 1) (f.others i d (k / 64) (omega (arith, m)) (λ q. omega (arith, q, z))) ∙ s.is i d k x y h z

  -- All inputs of a row, one after the other.
  all_inputs : (c : Cube) (k m : ℕ) → m ≤ n → k < length rows → k < 64 * b → allowed_to columns k c m ≡ upto (λ i. allows rel (get_or rows k 0) i (digit_at c i)) m
  all_inputs c k zero l h z = refl
  all_inputs c k (suc m) l h z = ap₂ ◌&&◌ (all_inputs c k m (omega arith) h z) (s.is m (digit_at c m) k l (digit_lt c.care c.value m) h z)

  pub filled-end : length rows ≤ 64 * b → Blocks (λ w c. relates rel n c w) n rows columns
  filled-end l = record { is = λ k h c. all_inputs c k n (le_refl n) h (omega arith) ∙ relates_upto rel n c.care c.value (get_or rows k 0) }
