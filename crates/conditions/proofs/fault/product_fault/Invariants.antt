use lib.ListN.{length}
use Rattle.hazard.specs.Implicant.{lowest_zero}
use Rattle.hazard.specs.Cover.{product_at}
use Rattle.cube.specs.Entry.{network_in}
use Rattle.context.specs.Context.{off_in}
use Rattle.conditions.specs.Look.{met_in}
use Rattle.conditions.proofs.Judging.{Judging}
use Rattle.conditions.proofs.fault.product_fault.Given as goal

abbrev pub invariant-loop-j : goal.invariant-loop-j
invariant-loop-j l = Judging (λ k. lowest_zero l.context.n.count (off_in l.context) (product_at (network_in l.context.n.count l.products) k)) (λ k. met_in l.context (product_at (network_in l.context.n.count l.products) k)) (length (network_in l.context.n.count l.products)) l.j l.met
