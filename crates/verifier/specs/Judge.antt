-- The first fault, by the sets.
use Rattle.std.specs.Prelude.{Bool, List, map, ℕ}
use Rattle.hazard.specs.Sets.{Privileged, Required}
use Rattle.hazard.specs.Cover.{Network}
use Rattle.hazard.specs.Verdict as spec
use Rattle.cube.specs.Entry.{required_in}
use Rattle.context.specs.Context.{off_in, privileged_of}
use Rattle.verifier.specs.declared.claim.Claim.{Claim}

-- The first fault of a network for an OFF-set, privileged cubes and required cubes.
abbrev pub fault_of : ℕ → (ℕ → Bool) → List Privileged → List Required → Network → spec.Verdict
fault_of n off vs rs net = spec.first_fault (spec.fault_a n off net) (spec.fault_c vs net) (spec.fault_b rs net)

-- The first fault of the network that a claim is about.
abbrev pub claim_fault : Claim → spec.Verdict
claim_fault c =
    let n = c.network.n.count in
    fault_of n (off_in c.context.now) (privileged_of c.context.now) (map (required_in n) c.required.now) (spec.products n c.network.bytes.now)
