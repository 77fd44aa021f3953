use Prim.Native.Nat.{◌-◌}
use Rattle.hazard.specs.Growth.{grow}
use Rattle.cube.specs.Mask.{cube_of, Clean}
use Rattle.context.specs.Context.{off_in, privileged_of}
use Rattle.expand.proofs.Growing.{Growing}
use Rattle.expand.proofs.growth.grow_on.Given as goal

abbrev pub invariant-loop-steps : goal.invariant-loop-steps
invariant-loop-steps l = Clean l.context.n.count l.cube × Growing l.context.n.count (off_in l.context) (privileged_of l.context) (cube_of l.context.n.count l.cube) l.steps (grow l.context.n.count (off_in l.context) (privileged_of l.context) (cube_of l.context.n.count l.initial.cube))

abbrev pub decreases-loop-steps : goal.decreases-loop-steps
decreases-loop-steps l = l.context.n.count - l.steps
