use mathlib.Core.Path.{ap, ◌∙◌}
use Rattle.std.specs.Prelude.{Some}
use native.Mathlib.Omega.{arith}
use Rattle.points.proofs.Turning.{turning_at, turning_steps, turning_more}
use Rattle.points.proofs.Looking.{looked_more, looked_hit, looked_end}
use Rattle.points.proofs.lowest.lowest_on.Goals as goal

pub returns-then-common-ne0 : goal.returns-then-common-ne0
returns-then-common-ne0 c =
    let q = c.in-Some.ensures.steps in
    ap Some c.lowest_point.ensures ∙ looked_hit (turning_at c.loop-step.invariant q) q.1 c.set_points-common.ensures c.if-common-ne0.true

pub loop-step-preserved : goal.loop-step-preserved
loop-step-preserved c =
    let q = c.in-Some.ensures.steps in
    let h = c.loop-step.invariant in
    turning_more h q (looked_more (turning_at h q) q.1 c.set_points-common.ensures (omega arith) (turning_steps h q))

pub returns : goal.returns
returns c = looked_end c.loop-step.invariant.next c.in-None.ensures.steps
