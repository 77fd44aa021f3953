use mathlib.Core.Path.{◌≡◌, refl, ap, ◌∙◌}
use mathlib.Core.Bool.{◌&&◌}
use Rattle.std.specs.Prelude.{Some}
use Prim.Native.Nat.{◌^◌}
use Rattle.hazard.specs.Search.{first}
use Rattle.hazard.specs.Cube as digits
use Rattle.hazard.specs.Cube.{has, span}
use Rattle.cube.specs.PointSet.{in_set}
use Rattle.points.specs.Walk.{lowest_on}
use Rattle.points.proofs.Turning.{turning_walk, turning_at, turning_steps, turning_more}
use Rattle.points.proofs.Looking.{looked_more, looked_hit, looked_end}
use Rattle.points.proofs.Agree.{lowest_agrees}
use Rattle.moves.specs.Turn.{turns}
use Rattle.rules.proofs.function_hazard.lowest_turning.Goals as goal
use Rattle.rules.proofs.function_hazard.lowest_turning.Goals.{After-into_iter-step-iterator}

-- The walk goes over [A,B].
over : (c : After-into_iter-step-iterator) → let a = c.args in lowest_on c.into_iter-step-iterator.result.walk (turns a.n.count (in_set a.from.now.words) (in_set a.to.now.words) a.a a.b) ≡ first (λ x. has (span a.n.count a.a a.b) x && turns a.n.count (in_set a.from.now.words) (in_set a.to.now.words) a.a a.b x) 0 (2 ^ a.n.count)
over c =
    let a = c.args in
    rw (turning_walk c.steps_of-step-items.ensures c.into_iter-step-iterator.ensures.into_iter_gives).0
    (lowest_agrees c.walk_over.ensures c.args.n.few (λ x l. refl) ∙ ap (λ (ds : digits.Cube). first (λ x. has ds x && turns a.n.count (in_set a.from.now.words) (in_set a.to.now.words) a.a a.b x) 0 (2 ^ a.n.count)) c.span_of.ensures.is)

pub returns-then-turning-ne0 : goal.returns-then-turning-ne0
returns-then-turning-ne0 c =
    let q = c.in-Some.ensures.steps in
    ap Some c.lowest_point.ensures ∙ looked_hit (turning_at c.loop-step.invariant q) q.1 c.turning_points-turning.ensures c.if-turning-ne0.true ∙ over (goal.at.returns-then-turning-ne0 c).After-into_iter-step-iterator

pub loop-step-preserved : goal.loop-step-preserved
loop-step-preserved c =
    let q = c.in-Some.ensures.steps in
    let h = c.loop-step.invariant in
    turning_more h q (looked_more (turning_at h q) q.1 c.turning_points-turning.ensures c.if-turning-ne0.false (turning_steps h q))

pub returns : goal.returns
returns c = looked_end c.loop-step.invariant.next c.in-None.ensures.steps ∙ over (goal.at.returns c).After-into_iter-step-iterator
