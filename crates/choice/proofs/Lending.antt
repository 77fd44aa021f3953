-- The sets of required cubes that both choices carry: the first words of two arrays, lent in every turn.
use mathlib.Core.Path.{◌≡◌, sym, ◌∙◌, subst}
use mathlib.Core.Bool.{Bool, false}
use mathlib.Core.List.{List, ◌++◌}
use Prim.Native.Nat.{ℕ, ◌+◌, ◌-◌, ◌*◌, ◌/◌, ◌≤◌, ◌<◌}
use native.Mathlib.Nat.{sub-zero}
use native.Mathlib.Omega.{arith}
use lib.Dec.{T, ltb}
use lib.ListN.{length, take, drop, replicate, length-append, length-drop, length-replicate}
use lib.Seq.{take_at, length-take-le}
use Rattle.hazard.specs.Limits.{most_required}
use Rattle.cube.specs.PointSet.{in_set}
use Rattle.blocks.specs.Blocks.{stride}
use Rattle.rows.specs.Sets.{most_words, Fits}
use Rattle.flags.specs.Flag.{Unflagged, Flagging}
use Rattle.flags.proofs.Flags.{unflagged_start, unflagged_low, unflagged_next, taken-low}

-- How many words a set of so many rows has.
abbrev pub words_of : ℕ → ℕ
words_of count = (count + 63) / 64

-- The first words of `uncovered` are the set of the required cubes, of so many, whose flag is not set; `taken` is room for a set.
pub record Lent (count : ℕ) (flags : List Bool) (uncovered taken : List ℕ) : Type 0 where
  pub few : count ≤ most_required
  pub long : length uncovered ≡ words_of most_required
  pub room : length taken ≡ words_of most_required
  pub all : length flags ≡ most_required
  pub unflagged : Unflagged count flags (take (words_of count) uncovered)

-- The part of an array from 0 on is handed on, and comes back.
module _ (count : ℕ) (few : count ≤ most_required) (old : List ℕ) (long : length old ≡ words_of most_required) where
  part_size : length (take (words_of count - 0) old) ≡ words_of count
  part_size = length-take-le (words_of count - 0) old (omega (arith, few, long)) ∙ sub-zero (words_of count)

  module _ (new : List ℕ) (same : length new ≡ length (take (words_of count - 0) old)) where
    whole_again : length (new ++ drop (words_of count - 0) old) ≡ words_of most_required
    whole_again = omega (arith, length-append new (drop (words_of count - 0) old), length-drop (words_of count - 0) old, same, part_size, few, long)

    part_again : take (words_of count - 0) (new ++ drop (words_of count - 0) old) ≡ new
    part_again = take_at new (drop (words_of count - 0) old) (words_of count - 0) (same ∙ part_size ∙ sym (sub-zero (words_of count)))

    words_again : take (words_of count) (new ++ drop (words_of count - 0) old) ≡ new
    words_again = take_at new (drop (words_of count - 0) old) (words_of count) (same ∙ part_size)

pub lent_start : (count : ℕ) (old new : List ℕ) {taken : List ℕ} → count ≤ most_required → length old ≡ words_of most_required → length taken ≡ words_of most_required
    → length new ≡ length (take (words_of count - 0) old) → ((k : ℕ) → k < 64 * length (take (words_of count - 0) old) → in_set new k ≡ ltb k count)
    → Lent count (replicate most_required false) (new ++ drop (words_of count - 0) old) taken
lent_start count old new few long room same h =
    record {
      few = few;
      long = whole_again count few old long new same;
      room = room;
      all = length-replicate most_required false;
      unflagged = rw (words_again count few old long new same)
          (unflagged_start most_required count new (omega (arith, same, part_size count few old long)) (λ k l. h k (omega (arith, l, same))));
    }

module _ {count : ℕ} {flags : List Bool} {uncovered taken : List ℕ} (s : Lent count flags uncovered taken) where
  abbrev lent : List ℕ
  lent = take (words_of count - 0) uncovered

  pub lent_low : words_of count ≤ length uncovered
  lent_low = omega (arith, s.few, s.long)

  pub lent_room : words_of count ≤ length taken
  lent_room = omega (arith, s.few, s.room)

  pub lent_wide : count ≤ 64 * length lent
  lent_wide = omega (arith, part_size count s.few uncovered s.long)

  pub lent_fits : (columns : List ℕ) → count ≤ 64 * stride columns → Fits columns lent
  lent_fits columns l = (omega (arith, part_size count s.few uncovered s.long, l), omega (arith, part_size count s.few uncovered s.long, s.few))

  pub lent_same : length (take (words_of count - 0) taken) ≡ length lent
  lent_same = part_size count s.few taken s.room ∙ sym (part_size count s.few uncovered s.long)

  pub lent_set : Unflagged count flags lent
  lent_set = subst (λ (m : ℕ). Unflagged count flags (take m uncovered)) (sym (sub-zero (words_of count))) s.unflagged

  pub lent_rows : (i : ℕ) → T (in_set lent i) → i < count
  lent_rows = unflagged_low count flags lent lent_set

  -- A product has come, and both parts are back.
  module _ {test : ℕ → Bool} {after took : List ℕ} {flags' : List Bool} (f : Flagging test lent after took flags flags')
      (a : length after ≡ length lent) (t : length took ≡ length (take (words_of count - 0) taken)) where
    pub lent_next : length flags' ≡ length flags → Lent count flags' (after ++ drop (words_of count - 0) uncovered) (took ++ drop (words_of count - 0) taken)
    lent_next e =
        record {
          few = s.few;
          long = whole_again count s.few uncovered s.long after a;
          room = whole_again count s.few taken s.room took t;
          all = e ∙ s.all;
          unflagged = rw (words_again count s.few uncovered s.long after a) (unflagged_next f lent_set lent_wide a);
        }

    -- What was taken is read back from its array.
    pub lent_took : take (words_of count - 0) (took ++ drop (words_of count - 0) taken) ≡ took
    lent_took = part_again count s.few taken s.room took t

    pub took-few : length (take (words_of count - 0) (took ++ drop (words_of count - 0) taken)) ≤ most_words
    took-few = rw lent_took (omega (arith, t, part_size count s.few taken s.room, s.few))

    pub took-low : (i : ℕ) → T (in_set (take (words_of count - 0) (took ++ drop (words_of count - 0) taken)) i) → i < count
    took-low i h = lent_rows i (taken-low f.split' i (rw lent_took at h))
