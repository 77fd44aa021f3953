-- The points that a walk comes to, and its steps.
use mathlib.Core.Path.{◌≡◌, refl, sym, ap, ap₂, ◌∙◌}
use mathlib.Core.Bool.{Bool, true, false, not, cond, ◌&&◌}
use mathlib.Core.List.{List}
use Prim.Native.Nat.{ℕ, ◌+◌, ◌-◌, ◌*◌, ◌/◌, ◌%◌, ◌^◌, ◌≤◌, ◌<◌}
use native.Mathlib.Nat.{mod-lt, mod-eq_of_lt, div-eq_of_lt, div_self, lt_of_le_of_lt, mul-le-mul_left, mul-one, zero-mul, zero-add}
use native.Mathlib.Decide.{dec_lt}
use native.Mathlib.Omega.{arith}
use lib.Bits.{bit_and, bit_xor, and_block, and_mask, and_mod, and_le_r, and_zero_l, xor_shr, xor_zero_r}
use lib.Dec.{T, eqb, ltb}
use lib.ListN.{set}
use lib.Pow.{pow_pos, pow_mono, split, high_ones, shr_mod, shr_mono}
use borrow.Author.Tests.{lt-ltb, le-ltb, ne_eqb}
use Rattle.hazard.specs.Cube.{bit, has}
use Rattle.hazard.specs.Added.{added}
use Rattle.hazard.proofs.Test.{is, isnt}
use Rattle.cube.specs.declared.mask.Cube.{Cube}
use Rattle.cube.specs.Invert.{invert}
use Rattle.cube.specs.Mask.{cube_of, Clean, Stands}
use Rattle.cube.specs.WordMask.{differs, Marks, Words}
use Rattle.cube.specs.Next.{Next}
use Rattle.cube.proofs.Bits.{zero_both}
use Rattle.cube.proofs.Inverting.{inverted_adds}
use Rattle.cube.proofs.Masks.{has_masks}
use Rattle.cube.proofs.ByWords.{word_first, word_below}
use Rattle.cube.proofs.WordMask.{no_bit, less_test}
use Rattle.points.specs.declared.walk.Walk.{Walk}
use Rattle.points.specs.declared.walk.Step.{Step}
use Rattle.points.specs.Walk.{Ten, in_words, visits, Walks, bits_at, At, Steps}

-- A cube of n inputs, as one of ten with 0 for the others.
module _ {n : ℕ} (few : n ≤ 10) {c : Cube} (s : Clean n c) where
  value-small : c.value < 2 ^ n
  value-small = lt_of_le_of_lt (omega (arith, s.clean, and_le_r c.value c.care)) s.small

  -- Where a point differs: in the inputs of the cube, and in those above.
  module _ (x : ℕ) (l : x < 1024) where
    above : bit_xor x c.value / 2 ^ n % 2 ^ (10 - n) ≡ x / 2 ^ n
    above =
        let e : 10 - n + n ≡ 10 = omega arith in
        ap (λ (y : ℕ). y % 2 ^ (10 - n)) (xor_shr x c.value n ∙ ap (bit_xor (x / 2 ^ n)) (div-eq_of_lt value-small) ∙ xor_zero_r (x / 2 ^ n))
        ∙ shr_mod (10 - n) n (rw e l)

    below : bit_and (bit_xor x c.value % 2 ^ n) c.care ≡ differs c x
    below =
        ap (bit_and (bit_xor x c.value % 2 ^ n)) (sym (mod-eq_of_lt s.small)) ∙ sym (and_mod (bit_xor x c.value) c.care n)
        ∙ mod-eq_of_lt (lt_of_le_of_lt (and_le_r (bit_xor x c.value) c.care) s.small)

    differs_ten : bit_and (bit_xor x c.value) ((2 ^ (10 - n) - 1) * 2 ^ n + c.care) ≡ x / 2 ^ n * 2 ^ n + differs c x
    differs_ten =
        ap (λ (y : ℕ). bit_and y ((2 ^ (10 - n) - 1) * 2 ^ n + c.care)) (sym (split (bit_xor x c.value) n))
        ∙ and_block n (bit_xor x c.value / 2 ^ n) (2 ^ (10 - n) - 1) (bit_xor x c.value % 2 ^ n) c.care (mod-lt (bit_xor x c.value) (pow_pos n)) s.small
        ∙ ap₂ (λ (a b : ℕ). a * 2 ^ n + b) (and_mask (bit_xor x c.value / 2 ^ n) (10 - n) ∙ above) below

    no_more : eqb (x / 2 ^ n) 0 ≡ ltb x (2 ^ n)
    no_more =
        elim (dec_lt x (2 ^ n)) [
          | yes h ↦ ap (λ (q : ℕ). eqb q 0) (div-eq_of_lt h) ∙ sym (lt-ltb x (2 ^ n) h)
          | no h ↦ ne_eqb (x / 2 ^ n) 0 (λ e. omega (arith, e, shr_mono {a = 2 ^ n} {b = x} n (omega (arith, h)), div_self (pow_pos n))) ∙ sym (le-ltb x (2 ^ n) (omega (arith, h)))
        ]

    ten_same : eqb (bit_and (bit_xor x c.value) ((2 ^ (10 - n) - 1) * 2 ^ n + c.care)) 0 ≡ (eqb (differs c x) 0 && ltb x (2 ^ n))
    ten_same =
        let m : x / 2 ^ n * 1 ≤ x / 2 ^ n * 2 ^ n = mul-le-mul_left (x / 2 ^ n) (pow_pos n) in
        ap (λ (d : ℕ). eqb d 0) differs_ten
        ∙ zero_both (x / 2 ^ n * 2 ^ n + differs c x) (differs c x) (x / 2 ^ n) (λ e. omega (arith, e, m, mul-one (x / 2 ^ n))) (λ e. let z : x / 2 ^ n ≡ 0 = omega (arith, e) in omega (arith, e, ap (λ (q : ℕ). q * 2 ^ n) z ∙ zero-mul (2 ^ n)))
        ∙ ap (λ (b : Bool). eqb (differs c x) 0 && b) no_more

  -- The code's literals: 1024 is 2^10.
  pub ten_care : c.care + (1024 - 2 ^ n) ≡ (2 ^ (10 - n) - 1) * 2 ^ n + c.care
  ten_care =
      let e : 10 - n + n ≡ 10 = omega arith in
      omega (arith, ap (λ (k : ℕ). 2 ^ k - 2 ^ n) (sym e) ∙ high_ones (10 - n) n)

  clean_ten : bit_and c.value ((2 ^ (10 - n) - 1) * 2 ^ n + c.care) ≡ c.value
  clean_ten =
      ap (λ (y : ℕ). bit_and y ((2 ^ (10 - n) - 1) * 2 ^ n + c.care)) (sym (ap (λ (y : ℕ). y + c.value) (zero-mul (2 ^ n)) ∙ zero-add c.value))
      ∙ and_block n 0 (2 ^ (10 - n) - 1) c.value c.care value-small s.small
      ∙ ap₂ (λ (a b : ℕ). a * 2 ^ n + b) (and_zero_l (2 ^ (10 - n) - 1)) s.clean ∙ ap (λ (y : ℕ). y + c.value) (zero-mul (2 ^ n)) ∙ zero-add c.value

  pub ten_is : (r : Cube) → r.care ≡ (2 ^ (10 - n) - 1) * 2 ^ n + c.care → r.value ≡ c.value → Ten n c r
  ten_is r e v =
      record {
        fits = record { small = omega (arith, e, sym ten_care, s.small, pow_mono {j = 10} few); clean = rw (e, v) clean_ten };
        same = λ x l. rw (e, v) (ten_same x l);
      }

-- The points of the cube, by its words and its mask.
pub in_words_lem : {n : ℕ} {c d h : Cube} {m : ℕ} → Clean n c → Ten n c d → Words d h → Marks d 6 m → (x : ℕ) → x < 1024 → in_words h m x ≡ (has (cube_of n c) x && ltb x (2 ^ n))
in_words_lem {n} {c} {d} s t k a x l =
    ap₂ ◌&&◌ (ap (λ (y : ℕ). eqb y 0) (k.word x)) (a.marks x) ∙ sym (zero_both (differs d x) (differs d x / 64) (differs d x % 64) (λ e. omega arith) (λ e. omega arith))
    ∙ t.same x l ∙ ap (λ (b : Bool). b && ltb x (2 ^ n)) (has_masks n c.care c.value x s.small)

-- Nothing is left out where there are no old bits.
none_out : (a b : Bool) (k : ℕ) → (a && not (b && eqb (bit 0 k) 1)) ≡ a
none_out a b k = ap (λ (y : ℕ). a && not (b && eqb y 1)) (no_bit 0 k refl) ∙ go a b
  where
    go : (a b : Bool) → (a && not (b && false)) ≡ a
    go true true = refl
    go true false = refl
    go false b = refl

-- What is left out lies below the size, as the others do.
but_within : (a b l : Bool) → ((a && l) && not (b && l)) ≡ ((a && not b) && l)
but_within true true true = refl
but_within true true false = refl
but_within true false true = refl
but_within true false false = refl
but_within false b l = refl

module _ {n : ℕ} (k : Walk) {c : Cube} (s : Clean n c) {d : Cube} (t : Ten n c d) (w : Words d k.words) (m : Marks d 6 k.mask) where
  pub over-is : k.gone ≡ 0 → Walks n k (has (cube_of n c))
  over-is g = record { is = λ x l. rw g (ap₂ ◌&&◌ (in_words_lem s t w m x l) refl) ∙ none_out (has (cube_of n c) x && ltb x (2 ^ n)) (eqb (differs k.old (x / 64)) 0) (x % 64) }

  pub added_is : {o : Cube} → Clean n o → {p : Cube} → Ten n o p → Words p k.old → Marks p 6 k.gone → Walks n k (added (cube_of n o) (cube_of n c))
  added_is {o} s' t' w' m' = record { is = λ x l. ap₂ (λ (a b : Bool). a && not b) (in_words_lem s t w m x l) (in_words_lem s' t' w' m' x l) ∙ but_within (has (cube_of n c) x) (has (cube_of n o) x) (ltb x (2 ^ n)) }

-- The points of the cube with a literal inverted are those that raising the literal adds.
pub raised_is : {n : ℕ} (c : Cube) {r : Cube} {k : Walk} (i : ℕ) → i < n → bit c.care i ≡ 1 → Stands n r (invert (cube_of n c) i) → Walks n k (has (cube_of n r)) → Walks n k (added (cube_of n c) (set (cube_of n c) i 2))
raised_is {n} c i l e s w = record { is = λ x h. w.is x h ∙ ap (λ (b : Bool). b && ltb x (2 ^ n)) (ap (λ (d : List ℕ). has d x) s.is ∙ inverted_adds n c.care c.value i x l e) }

-- The bits of a word that has points of the cube.
module _ (k : Walk) (w : ℕ) where
  but : (o : Bool) (i : ℕ) → eqb (bit (cond o (bit_xor k.mask (bit_and k.mask k.gone)) k.mask) i) 1 ≡ (eqb (bit k.mask i) 1 && not (o && eqb (bit k.gone i) 1))
  but true i = less_test k.mask k.gone i
  but false i = sym (and-true (eqb (bit k.mask i) 1))
    where
      and-true : (b : Bool) → (b && true) ≡ b
      and-true true = refl
      and-true false = refl

  bits_visit : eqb (differs k.words w) 0 ≡ true → (x : ℕ) → x / 64 ≡ w → eqb (bit (bits_at k w) (x % 64)) 1 ≡ visits k x
  bits_visit e x q = but (eqb (differs k.old w) 0) (x % 64) ∙ ap (λ (b : Bool). (b && eqb (bit k.mask (x % 64)) 1) && not (eqb (differs k.old w) 0 && eqb (bit k.gone (x % 64)) 1)) (sym e) ∙ ap (λ (v : ℕ). (eqb (differs k.words v) 0 && eqb (bit k.mask (x % 64)) 1) && not (eqb (differs k.old v) 0 && eqb (bit k.gone (x % 64)) 1)) (sym q)

module _ (k : Walk) where
  word-has : (w : ℕ) → eqb (differs k.words w) 0 ≡ has (cube_of 4 k.words) w
  word-has w = has_masks 4 k.words.care k.words.value w k.fits.small

  no_word : (x : ℕ) → ¬ T (has (cube_of 4 k.words) (x / 64)) → visits k x ≡ false
  no_word x t = ap (λ (b : Bool). (b && eqb (bit k.mask (x % 64)) 1) && not (in_words k.old k.gone x)) (word-has (x / 64) ∙ isnt (has (cube_of 4 k.words) (x / 64)) t)

  at_word : {s : Step} → (s.word < 16 → T (has (cube_of 4 k.words) s.word)) → s.mask < 2 ^ 64 → s.mask ≡ bits_at k s.word → At k s
  at_word {s} t h e = record { on = t; small = h; bits = λ l x q. rw e (bits_visit k s.word (word-has s.word ∙ is {b = has (cube_of 4 k.words) s.word} (t l)) x q) }

  pub step_first : {s : Step} → s.word ≡ k.words.value → s.mask < 2 ^ 64 → s.mask ≡ bits_at k s.word → Steps k 0 s
  step_first {s} e h m =
      record {
        later = omega arith;
        at' = at_word (λ l. rw e (word_first k.fits)) h m;
        gap = λ x a b l. no_word x (word_below k.fits (x / 64) (omega (arith, b, e)));
      }

  pub step_next : {w : ℕ} {s : Step} → Next 4 (cube_of 4 k.words) w s.word → s.mask < 2 ^ 64 → s.mask ≡ bits_at k s.word → Steps k (w + 1) s
  step_next {w} q h m =
      record {
        later = omega (arith, q.later);
        at' = at_word q.in' h m;
        gap = λ x a b l. no_word x (q.gap (x / 64) (omega arith) b l);
      }
