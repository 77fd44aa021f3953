use Rattle.hazard.specs.Expansion.{expand}
use Rattle.cube.specs.Mask.{cube_of, Clean}
use Rattle.context.specs.Context.{off_in, privileged_of}
use Rattle.expand.proofs.Raising.{Raising}
use Rattle.expand.proofs.prime.expanded.Given as goal

abbrev pub invariant-loop-i : goal.invariant-loop-i
invariant-loop-i l = Clean l.context.n.count l.p × Raising l.context.n.count (off_in l.context) (privileged_of l.context) (cube_of l.context.n.count l.p) l.i (expand l.context.n.count (off_in l.context) (privileged_of l.context) (cube_of l.context.n.count l.initial.p))
