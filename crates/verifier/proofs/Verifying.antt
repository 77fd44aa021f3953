-- The checks, one list after the other, what they leave to be judged, and what is shown of it.
use mathlib.Core.Path.{◌≡◌, sym, ap, ◌∙◌}
use mathlib.Core.List.{List}
use Rattle.std.specs.Prelude.{Option, None, Some}
use Prim.Native.Nat.{ℕ, ◌*◌, ◌/◌, ◌≤◌}
use native.Mathlib.Nat.{mul_assoc}
use native.Mathlib.Omega.{arith}
use lib.ListN.{length}
use Rattle.hazard.specs.Search.{first_of}
use Rattle.hazard.specs.Refusal.{Refusal, input_checks, Accepted}
use Rattle.hazard.specs.Cover.{Network}
use Rattle.hazard.specs.Verdict.{Verdict, refused, passed, holds_zero, intersects, uncovered, products, own_checks, verifier_checks, fault, verdict, Verified}
use Rattle.hazard.specs.Shown.{Shown}
use Rattle.hazard.specs.Pulse.{run_for}
use Rattle.hazard.proofs.Search.{first_of-none, entries, first_of-left, first_of-right}
use Rattle.hazard.proofs.Verdict.{products-length, wires-room, intersects_names, checked_well_formed, verified}
use Rattle.hazard.proofs.Shown.{run_few, shown}
use Rattle.witness.specs.Shows.{Named, Written}

-- The verdict that a refusal, or none, leads to.
abbrev judgement : ℕ → List ℕ → List ℕ → List ℕ → Option Refusal → Verdict
judgement n f ts bytes o = elim o [ Some r ↦ refused r | None ↦ fault n f ts (products n bytes) ]

module _ (n : ℕ) (f ts bytes : List ℕ) (room : ℕ) where
  pub input-refused : {r : Refusal} → Some r ≡ first_of (input_checks n f ts) → Verified n f ts bytes room (refused r)
  input-refused e = verified n f ts bytes room (ap (judgement n f ts bytes) (sym (first_of-left (input_checks n f ts) (own_checks n bytes room) (sym e))))

  module _ (ok : Accepted n f ts) where
    own : first_of (verifier_checks n f ts bytes room) ≡ first_of (own_checks n bytes room)
    own = first_of-right (input_checks n f ts) (own_checks n bytes room) ok

    module _ (taken : first_of (own_checks n bytes room) ≡ None) where
      judged : {v : Verdict} → v ≡ fault n f ts (products n bytes) → v ≡ verdict n f ts bytes room
      judged e = e ∙ ap (judgement n f ts bytes) (sym (own ∙ taken))

      pub network_judged : {v : Verdict} → v ≡ fault n f ts (products n bytes) → Verified n f ts bytes room v
      network_judged e = verified n f ts bytes room (judged e)

      -- The run for the verdict fits the buffer, and shows it once it is written.
      pub run_fits : (v : Verdict) → 2 * length (run_for f ts (products n bytes) v) ≤ room
      run_fits v =
          let few : length (run_for f ts (products n bytes) v) ≤ n * (length bytes / n) = rw (products-length n bytes) at (run_few n f ts (products n bytes) ok (checked_well_formed n f ts bytes room (own ∙ taken)) v) in
          omega (arith, few, wires-room n bytes room (first_of-none (own_checks n bytes room) taken (search entries)), mul_assoc 2 n (length bytes / n))

      pub network_shown : {v : Verdict} → v ≡ fault n f ts (products n bytes) → {before after : List ℕ} {size : ℕ} → Written (run_for f ts (products n bytes) v) before after size
          → Shown f ts (products n bytes) v before after size
      network_shown e w = shown n f ts bytes room (judged e) w.counted w.buffer

-- A transition that is said to be intersected is one of the list.
pub fault-named : (n : ℕ) (f ts : List ℕ) (net : Network) (v : Verdict) → v ≡ fault n f ts net → Named ts v
fault-named n f ts net (refused r) e = tt
fault-named n f ts net passed e = tt
fault-named n f ts net (holds_zero j x) e = tt
fault-named n f ts net (intersects j k) e = intersects_names n f ts net j k (sym e)
fault-named n f ts net (uncovered k x) e = tt
