use mathlib.Core.Path.{◌≡◌, sym, ap, ◌∙◌}
use Rattle.std.specs.Prelude.{Some, option_map}
use native.Mathlib.Omega.{arith}
use Rattle.hazard.specs.Cube.{join}
use Rattle.hazard.specs.Search.{find}
use Rattle.hazard.specs.Implicant.{illegal}
use Rattle.cube.specs.Mask.{cube_of, Stands}
use Rattle.cube.specs.Entry.{privileged_in}
use Rattle.context.specs.Context.{privileged_of}
use Rattle.expand.proofs.Growing.{growing_legal, growing_blocked, growing_step, growing_end}
use Rattle.expand.proofs.growth.grow_on.Goals as goal
use Rattle.expand.proofs.growth.grow_on.Goals.{After-joined-wider}

pub returns-in_default : goal.returns-in_default
returns-in_default c =
    let l = c.loop-steps in
    record {
      is = growing_legal l.invariant.1 (omega arith) (sym c.first_illegal.ensures ∙ ap (option_map (privileged_in c.args.context.now.n.count)) c.in_default.is);
      few = omega arith;
      clean = l.invariant.0;
    }

-- The privileged cube that is met, and the wider cube.
met : (c : After-joined-wider) → let k = c.args.context.now in find (illegal (cube_of k.n.count c.loop-steps.cube)) (privileged_of k) ≡ Some (privileged_in k.n.count c.in-Some.w)
met c = sym c.first_illegal.ensures ∙ ap (option_map (privileged_in c.args.context.now.n.count)) c.in-Some.is

wide : (c : After-joined-wider) → let k = c.args.context.now in Stands k.n.count c.joined-wider.result (join (cube_of k.n.count c.loop-steps.cube) (privileged_in k.n.count c.in-Some.w).start)
wide c = rw (← c.point_in.ensures) (c.joined-wider.ensures c.args.context.now.n.count c.loop-steps.invariant.0.small)

pub returns-in-Some-lowest_added : goal.returns-in-Some-lowest_added
returns-in-Some-lowest_added c =
    let at = (goal.at.returns-in-Some-lowest_added c).After-joined-wider in
    record { is = growing_blocked c.loop-steps.invariant.1 (omega arith) (met at) (wide at).is c.lowest_added.ensures c.in-Some-lowest_added.is; few = omega arith; clean = tt }

pub loop-steps-preserved : goal.loop-steps-preserved
loop-steps-preserved c =
    let at = (goal.at.loop-steps-preserved c).After-joined-wider in
    ((wide at).fits, growing_step c.loop-steps.invariant.1 (omega arith) (met at) (wide at).is c.lowest_added.ensures c.in_default-lowest_added.is)

pub returns : goal.returns
returns c = let (k, g) = c.loop-steps.invariant in record { is = growing_end g (omega arith); few = omega arith; clean = k }
