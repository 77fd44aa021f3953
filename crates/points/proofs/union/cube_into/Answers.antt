use Rattle.std.proofs.Common.{rules}
use Rattle.points.proofs.Turning.{turning_at, turning_steps, turning_more}
use Rattle.points.proofs.Uniting.{uniting_more}
use Rattle.points.proofs.union.cube_into.Goals as goal

pub loop-step-preserved : goal.loop-step-preserved
loop-step-preserved c =
    let h = c.loop-step.invariant in
    let q = c.in-Some.ensures.steps in
    turning_more h q (uniting_more (turning_at h q) (search rules) q.1 (turning_steps h q))
