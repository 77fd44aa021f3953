-- What the conditions say of the stored sets and products, they say of the problem's and the network's.
use mathlib.Core.Path.{◌≡◌, sym, ap, ap₂, ◌∙◌, subst}
use mathlib.Core.Bool.{Bool}
use mathlib.Core.List.{List, map}
use Prim.Native.Nat.{ℕ, ◌-◌, ◌/◌, ◌≤◌}
use native.Mathlib.Nat.{sub-zero}
use lib.ListN.{length, get_or, take, length-map}
use Rattle.hazard.specs.Transition.{off}
use Rattle.hazard.specs.Sets.{Privileged, Required, required, privileged}
use Rattle.hazard.specs.Cover.{Network}
use Rattle.hazard.specs.Verdict as spec
use Rattle.hazard.proofs.Verdict.{products-length}
use Rattle.cube.specs.Entry.{required_in, CleanWord, cube_in, network_in}
use Rattle.cube.specs.declared.inputs.Inputs.{Inputs}
use Rattle.cube.proofs.Word.{taken-clean}
use Rattle.context.specs.Context.{off_in, privileged_of, table_in}
use Rattle.checks.specs.declared.checked.Checked.{Checked}
use Rattle.checks.proofs.HandedOn.{checked-off}
use Rattle.network_bytes.specs.Network.{Read}
use Rattle.verifier.specs.declared.claim.Claim.{Claim}
use Rattle.verifier.specs.Judge.{fault_of, claim_fault}

-- The words that were read, handed on as a part from 0.
module _ {n : ℕ} {bytes words : List ℕ} {m : ℕ} (read : Read n bytes words m) where
  part_size : length (take m words) ≡ length bytes / n
  part_size = sym (length-map (take m words) (cube_in n)) ∙ ap (λ (l : Network). length l) read.is ∙ products-length n bytes

  pub read_few : {b : ℕ} → length bytes / n ≤ b → length (take (m - 0) words) ≤ b
  read_few l = rw (sub-zero m, part_size) l

  pub read_clean : (i : ℕ) → CleanWord n (get_or (take (m - 0) words) i 0)
  read_clean = rw (sub-zero m) (taken-clean n m words read.clean)

  pub read_is : network_in n (take (m - 0) words) ≡ spec.products n bytes
  read_is = ap (λ (k : ℕ). network_in n (take k words)) (sub-zero m) ∙ read.is

-- A claim's network, read as words.
module _ (claim : Claim) {words : List ℕ} {m : ℕ} (read : Read claim.network.n.count claim.network.bytes.now words m) where
  pub claim_clean : (i : ℕ) → CleanWord claim.context.now.n.count (get_or (take (m - 0) words) i 0)
  claim_clean = subst (λ (n : Inputs). (i : ℕ) → CleanWord n.count (get_or (take (m - 0) words) i 0)) (sym claim.same) (read_clean read)

  pub claim_judged : let n = claim.context.now.n.count in
      fault_of n (off_in claim.context.now) (privileged_of claim.context.now) (map (required_in n) claim.required.now) (network_in n (take (m - 0) words)) ≡ claim_fault claim
  claim_judged =
      let fault : ℕ → Network → spec.Verdict = λ n net. fault_of n (off_in claim.context.now) (privileged_of claim.context.now) (map (required_in n) claim.required.now) net in
      ap (λ (n : Inputs). fault n.count (network_in n.count (take (m - 0) words))) claim.same ∙ ap (fault claim.network.n.count) (read_is read)

-- The sets of a checked problem are its table's.
module _ (k : Checked) where
  abbrev table : List ℕ
  table = table_in k.problem.planes

  abbrev list : List ℕ
  list = k.problem.transitions.list.now

  -- The first fault by its sets is the problem's.
  pub checked-fault : (m : Inputs) → m ≡ k.problem.planes.n → (words bytes : List ℕ) → map (required_in k.problem.planes.n.count) words ≡ required k.problem.planes.n.count table list
      → fault_of m.count (off_in k.context) (privileged_of k.context) (map (required_in m.count) words) (spec.products m.count bytes) ≡ spec.fault m.count table list (spec.products m.count bytes)
  checked-fault m e words bytes r = subst faults (sym e) (ap₂ (λ (o : ℕ → Bool) (vs : List Privileged). fault o vs (map (required_in n) words)) (checked-off k) k.sets.privileged' ∙ ap (fault (off table) (privileged n table list)) r)
    where
      n : ℕ
      n = k.problem.planes.n.count

      faults : Inputs → Type 0
      faults m =
          fault_of m.count (off_in k.context) (privileged_of k.context) (map (required_in m.count) words) (spec.products m.count bytes)
          ≡ spec.fault m.count table list (spec.products m.count bytes)

      fault : (ℕ → Bool) → List Privileged → List Required → spec.Verdict
      fault o vs rs = fault_of n o vs rs (spec.products n bytes)
