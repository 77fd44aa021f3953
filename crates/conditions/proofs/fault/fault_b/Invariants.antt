use mathlib.Core.Path.{◌≡◌}
use mathlib.Core.List.{map}
use lib.ListN.{length}
use Rattle.hazard.specs.Verdict.{fault_b}
use Rattle.cube.specs.Entry.{required_in, network_in}
use Rattle.cube.proofs.Left.{Left}
use Rattle.conditions.proofs.fault.fault_b.Given as goal

abbrev pub invariant-loop-w : goal.invariant-loop-w
invariant-loop-w g = (length g.rows ≡ length g.initial.rows) × Left (λ l. fault_b (map (required_in g.n.count) l) (network_in g.n.count g.products)) g.required g.w-index
