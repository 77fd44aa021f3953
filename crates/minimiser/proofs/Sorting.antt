-- Kept words in another order are kept words: one law for all that is promised of them. Sorted, their products are in sequence.
use mathlib.Core.Bool.{Bool}
use mathlib.Core.List.Perm
use mathlib.Core.List.{List, Nodup, Perm}
use Prim.Native.Nat.{ℕ}
use lib.Dec.{T}
use Rattle.hazard.specs.Sets.{Required, Privileged}
use Rattle.hazard.specs.Sequence.{ascending}
use Rattle.hazard.proofs.Minimal.{irredundant_nodup}
use Rattle.hazard.proofs.Sequence.{reordered_covered, reordered_own}
use Rattle.cube.specs.Entry.{cube_in, network_in}
use Rattle.sequence.specs.Sorted.{Sorted}
use Rattle.sequence.specs.Words.{up_to}
use Rattle.sequence.proofs.Reordered.{reordered_length, reordered_in, reordered_products, sorted-ascending}
use Rattle.selection.specs.Select.{KeptWords}

module _ {n : ℕ} {off : ℕ → Bool} {vs : List Privileged} {rs : List Required} {l m : List ℕ} (k : KeptWords n off vs rs l) (s : Perm l m) where
  -- No product stands twice.
  once : Nodup (network_in n m)
  once = Perm.nodup (Perm.map (cube_in n) s) (irredundant_nodup rs (network_in n l) k.own)

  pub reordered_kept : KeptWords n off vs rs m
  reordered_kept =
      record {
        clean = λ w i. k.clean w (reordered_in (Perm.symm s) w i);
        primes = λ p i. k.primes p (reordered_products n (Perm.symm s) p i);
        covers = λ q i. reordered_covered (reordered_products n s) q.cube (k.covers q i);
        own = reordered_own rs (reordered_products n (Perm.symm s)) once k.own;
        few = rw (← reordered_length s) k.few;
      }

  pub sorted-sequence : Sorted up_to m → T (ascending (network_in n m))
  sorted-sequence h = sorted-ascending n m (λ w i. (reordered_kept.clean w i).small) h once
