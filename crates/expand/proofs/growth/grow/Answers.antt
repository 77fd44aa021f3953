use mathlib.Core.Path.{sym, ◌∙◌}
use native.Mathlib.Omega.{arith}
use Rattle.cube.specs.Mask.{cube_of}
use Rattle.context.specs.Context.{off_in, privileged_of}
use Rattle.expand.proofs.Growing.{blocked_first}
use Rattle.expand.proofs.growth.grow.Goals as goal

pub returns-in-Some : goal.returns-in-Some
returns-in-Some c =
    let k = c.args.context.now in
    record { is = blocked_first k.n.count (off_in k) (privileged_of k) (cube_of k.n.count c.args.c) (sym c.lowest_zero.ensures ∙ c.in-Some.is); few = omega arith; clean = tt }

pub grow_on-requires-clause-zeros : goal.grow_on-requires-clause-zeros
grow_on-requires-clause-zeros c = sym c.lowest_zero.ensures ∙ c.in_default.is
