use mathlib.Core.Path.{refl, ◌∙◌}
use mathlib.Core.Bool.{◌&&◌}
use Prim.Native.Nat.{◌^◌}
use lib.Pow.{pow_mono}
use Rattle.hazard.specs.Sets.{maximal_label}
use Rattle.cube.specs.Entry.{required_in}
use Rattle.cube.specs.PointSet.{in_set}
use Rattle.points.specs.Walk.{visits}
use Rattle.points.proofs.Agree.{Agrees}
use Rattle.points.proofs.Turning.{turning_walk, turning_at, turning_steps, turning_more}
use Rattle.context.specs.Context.{table_in}
use Rattle.moves.specs.Turn.{lasts}
use Rattle.entries.specs.Store.{required_to}
use Rattle.sets.proofs.Makers.{labels_agree}
use Rattle.sets.proofs.Gather.{walked_start, walked_room, walked_below, walked_more, walked_end}
use Rattle.sets.proofs.required.dynamic_into.Goals as goal
use Rattle.sets.proofs.required.dynamic_into.Goals.{After-into_iter-step-iterator}

-- The walk finds the labels of [S,E].
labels : (c : After-into_iter-step-iterator) → let a = c.args in let p = a.planes.now in
    Agrees (λ x. visits c.into_iter-step-iterator.result.walk x && lasts p.n.count (in_set p.ones.words) a.s a.e x) (maximal_label p.n.count (table_in p) a.s a.e) (2 ^ p.n.count)
labels c =
    rw (turning_walk c.steps_of-step-items.ensures c.into_iter-step-iterator.ensures.into_iter_gives).0
    (labels_agree c.args.planes.now c.args.s c.args.e c.span_of.ensures c.walk_over.ensures)

pub loop-step-init : goal.loop-step-init
loop-step-init c =
    let a = c.args in
    let n = a.planes.now.n in
    let t = turning_walk c.steps_of-step-items.ensures c.into_iter-step-iterator.ensures.into_iter_gives in
    (refl, record { same = refl; next = walked_start n.count (required_in n.count) (required_to n.count a.t a.s) a.out.now.room.now a.out.now.next t.1 _ (labels (goal.at.loop-step-init c).After-into_iter-step-iterator) (pow_mono {j = 10} n.few) })

pub word_into-requires-clause-points : goal.word_into-requires-clause-points
word_into-requires-clause-points c =
    let q = c.in-Some.ensures.steps in
    (q.1, walked_below (turning_at c.loop-step.invariant.1 q) q.1 c.last_points-labels.ensures (labels (goal.at.word_into-requires-clause-points c).After-into_iter-step-iterator), λ x i. c.requires.ends.0)

pub word_into-requires-clause-room : goal.word_into-requires-clause-room
word_into-requires-clause-room c =
    let q = c.in-Some.ensures.steps in
    walked_room (turning_at c.loop-step.invariant.1 q) q.1 c.last_points-labels.ensures (2 ^ 32) c.requires.room

pub loop-step-preserved : goal.loop-step-preserved
loop-step-preserved c =
    let q = c.in-Some.ensures.steps in
    let i = c.loop-step.invariant in
    let p = c.word_into.ensures in
    (p.same_room ∙ i.0, turning_more i.1 q (walked_more (turning_at i.1 q) q.1 c.last_points-labels.ensures (turning_steps i.1 q) p.stored))

pub returns-clause-stored : goal.returns-clause-stored
returns-clause-stored c = walked_end c.loop-step.invariant.1.next c.in-None.ensures.steps
