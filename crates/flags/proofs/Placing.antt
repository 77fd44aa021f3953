-- The loop that puts a value in the places of the rows of a set: a product noted, or a flag set.
use mathlib.Core.Path.{◌≡◌, refl, sym, ap, ◌∙◌}
use mathlib.Core.Logic.{◌≢◌}
use mathlib.Core.Bool.{Bool, true, false, cond, ◌&&◌}
use mathlib.Core.List.{List}
use Prim.Native.Nat.{ℕ, ◌+◌, ◌*◌, ◌/◌, ◌%◌, ◌^◌, ◌≤◌, ◌<◌}
use native.Mathlib.Decide.{ℕ_discrete, dec_lt}
use native.Mathlib.Omega.{arith}
use lib.Count.{count_trailing_zeros}
use lib.Dec.{T, eqb, eqb→eq, ltb, ltb→lt, lt→ltb}
use lib.ListN.{length, get_or, set, length-set, get_or-eq_default}
use lib.Seq.{get_or-set_same, get_or-set_other}
use Rattle.hazard.specs.Cube.{bit, flip}
use Rattle.hazard.proofs.Point.{flip-same, flip-other}
use Rattle.hazard.proofs.Test.{T_and, is, isnt, eqb_of, bool_ext}
use Rattle.cube.specs.PointSet.{in_set}
use Rattle.cube.proofs.WordMask.{no_bit}
use Rattle.cube.proofs.LowestBit.{lowest-few, lowest_set}
use Rattle.flags.specs.Rows.{in_word}

-- No row is past a set's words.
pub past : (set : List ℕ) (i : ℕ) → 64 * length set ≤ i → in_set set i ≡ false
past set i l = ap (λ (y : ℕ). eqb y 1) (no_bit (get_or set (i / 64) 0) (i % 64) (get_or-eq_default set 0 (omega (arith, l))))

-- What stands there in the end is what stands there now, and v in the places of the rows that are left.
pub record Placing {A : Type 0} (d : A) (b word : ℕ) (v : A) (old new : List A) (left : ℕ) : Type 0 where
  pub long : length new ≡ length old
  pub small : left < 2 ^ 64
  pub within : (i : ℕ) → T (in_word b left i) → T (in_word b word i)
  pub is : (i : ℕ) → cond (in_word b word i) v (get_or old i d) ≡ cond (in_word b left i) v (get_or new i d)

pub placing_start : {A : Type 0} (d : A) (b word : ℕ) (v : A) (old : List A) → word < 2 ^ 64 → Placing d b word v old old word
placing_start d b word v old h = record { long = refl; small = h; within = λ i t. t; is = λ i. refl }

module _ {A : Type 0} {d : A} {b word : ℕ} {v : A} {old new : List A} {left : ℕ} (s : Placing d b word v old new left) (ne : left ≢ 0) where
  abbrev lowest : ℕ
  lowest = 64 * b + count_trailing_zeros 64 left

  few : count_trailing_zeros 64 left < 64
  few = lowest-few left s.small ne

  place : (lowest / 64 ≡ b) × (lowest % 64 ≡ count_trailing_zeros 64 left)
  place = (omega (arith, few), omega (arith, few))

  here : T (in_word b left lowest)
  here = (T_and (eqb (lowest / 64) b) (eqb (bit left (lowest % 64)) 1)).1 (eqb_of place.0, eqb_of (ap (bit left) place.1 ∙ lowest_set left s.small ne))

  pub placing_at : ((i : ℕ) → T (in_word b word i) → i < length old) → lowest < length new
  placing_at h = omega (arith, h lowest (s.within lowest here), s.long)

  -- The lowest row has its value, and leaves.
  gone : in_word b (flip left (count_trailing_zeros 64 left)) lowest ≡ false
  gone = isnt (in_word b (flip left (count_trailing_zeros 64 left)) lowest) (λ t.
      let e = eqb→eq (bit (flip left (count_trailing_zeros 64 left)) (lowest % 64)) 1 ((T_and (eqb (lowest / 64) b) (eqb (bit (flip left (count_trailing_zeros 64 left)) (lowest % 64)) 1)).0 t).1 in
      omega (arith, e, ap (bit (flip left (count_trailing_zeros 64 left))) place.1, flip-same left (count_trailing_zeros 64 left), lowest_set left s.small ne))

  others : (i : ℕ) → i ≢ lowest → in_word b (flip left (count_trailing_zeros 64 left)) i ≡ in_word b left i
  others i n = elim (ℕ_discrete (i / 64) b) [
    | yes e ↦ ap (λ (y : ℕ). eqb (i / 64) b && eqb y 1) (flip-other left (count_trailing_zeros 64 left) (i % 64) (λ q. n (omega (arith, q, e))))
    | no e ↦ let f : eqb (i / 64) b ≡ false = isnt (eqb (i / 64) b) (λ t. e (eqb→eq (i / 64) b t)) in rw f
  ]

  pub placing_step : lowest < length new → {next : ℕ} → next ≡ flip left (count_trailing_zeros 64 left) → next < left → Placing d b word v old (set new lowest v) next
  placing_step l {next} e less =
      record {
        long = length-set new lowest v ∙ s.long;
        small = omega (arith, less, s.small);
        within = λ i t. s.within i (elim (ℕ_discrete i lowest) [ yes q ↦ rw q here | no q ↦ rw (e, others i q) at t ]);
        is = λ i. s.is i ∙ elim (ℕ_discrete i lowest) [
          | yes q ↦ rw (q, e, is {b = in_word b left lowest} here, gone) (sym (get_or-set_same new lowest v d l))
          | no q ↦ rw (e, others i q, get_or-set_other new lowest i v d q)
        ];
      }

pub placing_end : {A : Type 0} {d : A} {b word : ℕ} {v : A} {old new : List A} {left : ℕ} → Placing d b word v old new left → left ≡ 0 → (i : ℕ) → get_or new i d ≡ cond (in_word b word i) v (get_or old i d)
placing_end {A} {d} {b} {word} {v} {old} {new} {left} s e i = sym (s.is i ∙ ap (λ (t : Bool). cond t v (get_or new i d)) none)
  where
    none : in_word b left i ≡ false
    none = isnt (in_word b left i) (λ t. let q = eqb→eq (bit left (i % 64)) 1 ((T_and (eqb (i / 64) b) (eqb (bit left (i % 64)) 1)).0 t).1 in omega (arith, q, no_bit left (i % 64) e))

-- Word after word: v stands in the places of the rows of the words below b.
pub record Placed {A : Type 0} (d : A) (set : List ℕ) (v : A) (old new : List A) (b : ℕ) : Type 0 where
  pub is : (i : ℕ) → get_or new i d ≡ cond (ltb i (64 * b) && in_set set i) v (get_or old i d)

not_below : (i k : ℕ) → k ≤ i → ltb i k ≡ false
not_below i k l = isnt (ltb i k) (λ t. let h = ltb→lt i k t in omega arith)

below : (i k : ℕ) → i < k → ltb i k ≡ true
below i k l = is {b = ltb i k} (lt→ltb i k l)

pub placed_start : {A : Type 0} (d : A) (set : List ℕ) (v : A) (old : List A) → Placed d set v old old 0
placed_start d set v old = record { is = λ i. rw (not_below i (64 * 0) (omega arith)) }

module _ {A : Type 0} {d : A} {set : List ℕ} {v : A} {old new : List A} {b : ℕ} (s : Placed d set v old new b) where
  -- The rows of word b are rows of the set.
  pub placed_word : (i : ℕ) → T (in_word b (get_or set b 0) i) → T (in_set set i)
  placed_word i t =
      let (q, u) = (T_and (eqb (i / 64) b) (eqb (bit (get_or set b 0) (i % 64)) 1)).0 t in
      rw (eqb→eq (i / 64) b q) u

  pub placed_step : b < length set → (next : List A) → ((i : ℕ) → get_or next i d ≡ cond (in_word b (get_or set b 0) i) v (get_or new i d)) → Placed d set v old next (b + 1)
  placed_step l next h = record { is = λ i. h i ∙ go i (ℕ_discrete (i / 64) b) }
    where
      go : (i : ℕ) → Dec (i / 64 ≡ b) → cond (in_word b (get_or set b 0) i) v (get_or new i d) ≡ cond (ltb i (64 * (b + 1)) && in_set set i) v (get_or old i d)
      go i (yes q) =
          let e : in_word b (get_or set b 0) i ≡ in_set set i = rw (is {b = eqb (i / 64) b} (eqb_of q)) (rw q) in
          let f : get_or new i d ≡ get_or old i d = s.is i ∙ rw (not_below i (64 * b) (omega arith)) in
          rw (e, f, below i (64 * (b + 1)) (omega arith))
      go i (no q) =
          let e : eqb (i / 64) b ≡ false = isnt (eqb (i / 64) b) (λ t. q (eqb→eq (i / 64) b t)) in
          let f : ltb i (64 * b) ≡ ltb i (64 * (b + 1)) = bool_ext (ltb i (64 * b)) (ltb i (64 * (b + 1))) (λ t. lt→ltb i (64 * (b + 1)) (omega (arith, ltb→lt i (64 * b) t))) (λ t. lt→ltb i (64 * b) (omega (arith, ltb→lt i (64 * (b + 1)) t))) in
          rw (e, s.is i, f)

  pub placed_end : length set ≤ b → (i : ℕ) → get_or new i d ≡ cond (in_set set i) v (get_or old i d)
  placed_end l i = s.is i ∙ ap (λ (t : Bool). cond t v (get_or old i d)) (same (dec_lt i (64 * b)))
    where
      same : Dec (i < 64 * b) → (ltb i (64 * b) && in_set set i) ≡ in_set set i
      same (yes h) = rw (below i (64 * b) h)
      same (no h) = rw (not_below i (64 * b) (omega (arith, h)), past set i (omega (arith, h, l)))
