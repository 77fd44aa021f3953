-- The answer for the words that are selected.
use mathlib.Core.Path.{◌≡◌, refl, sym, ap, ◌∙◌}
use mathlib.Core.Bool.{Bool}
use mathlib.Core.List.{List, ◌++◌}
use Rattle.std.specs.Prelude.{Some, Result, Ok, Err}
use Rattle.std.proofs.lemmas.Option.{same_Some}
use Prim.Native.Nat.{ℕ, ◌*◌, ◌-◌, ◌≤◌}
use native.Mathlib.Nat.{le_trans, mul-le-mul_right}
use native.Mathlib.Omega.{arith}
use lib.ListN.{length, take, drop, length-drop}
use lib.Seq.{length-take-le}
use Rattle.hazard.specs.Limits.{most_required}
use Rattle.hazard.specs.Sets.{Required, Privileged}
use Rattle.hazard.specs.Refusal.{Refusal}
use Rattle.hazard.specs.Minimal.{bytes_of, Minimised, written, declined}
use Rattle.hazard.proofs.Search.{none-some}
use Rattle.cube.specs.Entry.{network_in}
use Rattle.refusal.specs.declared.refusal.Refusal as code
use Rattle.selection.specs.Choose.{blocking_of}
use Rattle.selection.specs.declared.select.Places.{Places}
use Rattle.selection.specs.Select.{KeptFrom, Selects}
use Rattle.sequence.specs.Sorted.{Sorts}
use Rattle.sequence.specs.Words.{up_to}
use Rattle.sequence.proofs.Reordered.{reordered_length}
use Rattle.minimiser.specs.Answer.{Writable, Answered}
use Rattle.minimiser.proofs.Sorting.{reordered_kept, sorted-sequence}

-- As many words stand in a part as its places say.
pub part_length : (products : List ℕ) {from to : ℕ} → from ≤ to → to ≤ length products → length (take (to - from) (drop from products)) ≡ to - from
part_length products {from} {to} low high = length-take-le (to - from) (drop from products) (omega (arith, length-drop from products))

-- The bytes of no more words than there is room for.
pub written-room : (n : ℕ) {m r k : ℕ} → m * n ≤ r → k ≤ m → k * n ≤ r
written-room n room h = le_trans (mul-le-mul_right n h) room

module _ (n : ℕ) (off : ℕ → Bool) (vs : List Privileged) (rs : List Required) where
  -- A buffer with n bytes for each required cube has room for the words.
  pub writable : (products cover : List ℕ) (s : Result Places code.Refusal) → Selects n off vs rs products s → length rs ≤ most_required → length rs * n ≤ length cover → Writable n products cover s
  writable products cover (Ok places) h few room =
      let l : places.end - places.start ≤ length rs = omega (arith, part_length products h.low h.high, h.kept.few) in
      (h.low, h.high, omega (arith, l, few), le_trans (mul-le-mul_right n l) room)
  writable products cover (Err q) h few room = tt

  -- The answer, of each way to end.
  pub answered_refused : {q : Refusal} (before : List ℕ) → blocking_of n off vs rs ≡ Some q → Answered n off vs rs before before (declined q)
  answered_refused {q} before e =
      record { refused = λ p h. (ap declined (same_Some q p (sym e ∙ h)), refl); network = λ h. none-some (sym h ∙ e) }

  pub answered_written : {products before after : List ℕ} {from to : ℕ} (words : List ℕ) → KeptFrom n off vs rs products from to → Sorts up_to (take (to - from) (drop from products)) words
      → after ≡ bytes_of (network_in n words) ++ drop (length words * n) before → Answered n off vs rs before after (written (to - from))
  answered_written {products} words h s e =
      record {
        refused = λ p i. none-some (sym h.free ∙ i);
        network = λ i. record {
          words = words;
          kept = reordered_kept h.kept s.same;
          sequence = sorted-sequence h.kept s.same s.sorted;
          size = ap written (sym (part_length products h.low h.high) ∙ reordered_length s.same);
          is = e;
        };
      }

  -- A refusal leaves the buffer as it was.
  pub refused-kept : {before after : List ℕ} {r : Minimised} {q : Refusal} → Answered n off vs rs before after r → blocking_of n off vs rs ≡ Some q → after ≡ before
  refused-kept {q = q} h e = (h.refused q e).1
