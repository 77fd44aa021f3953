use mathlib.Core.Path.{refl, ◌∙◌}
use mathlib.Core.Bool.{◌&&◌}
use Rattle.std.specs.Prelude.{None}
use Prim.Native.Nat.{◌^◌}
use native.Mathlib.Omega.{arith}
use lib.Pow.{pow_mono}
use Rattle.hazard.proofs.Counting.{those-few}
use Rattle.cube.specs.Entry.{required_in}
use Rattle.cube.specs.PointSet.{in_set}
use Rattle.points.specs.Walk.{visits}
use Rattle.points.proofs.Agree.{Agrees}
use Rattle.points.proofs.Turning.{turning_walk, turning_at, turning_steps, turning_more}
use Rattle.entries.specs.Store.{required_at}
use Rattle.sets.proofs.Makers.{points_agree}
use Rattle.sets.proofs.Gather.{walked_start, walked_room, walked_below, walked_more, walked_end}
use Rattle.sets.proofs.required.points_into.Goals as goal
use Rattle.sets.proofs.required.points_into.Goals.{After-into_iter-step-iterator}

-- The walk finds all points of the set.
all : (c : After-into_iter-step-iterator) → let a = c.args in Agrees (λ x. visits c.into_iter-step-iterator.result.walk x && in_set a.set.now.words x) (in_set a.set.now.words) (2 ^ a.n.count)
all c =
    rw (turning_walk c.steps_of-step-items.ensures c.into_iter-step-iterator.ensures.into_iter_gives).0
    (points_agree c.args.n.few c.walk_over.ensures (in_set c.args.set.now.words))

pub loop-step-init : goal.loop-step-init
loop-step-init c =
    let a = c.args in
    let n = a.n in
    let t = turning_walk c.steps_of-step-items.ensures c.into_iter-step-iterator.ensures.into_iter_gives in
    (refl, record { same = refl; next = walked_start n.count (required_in n.count) (required_at n.count a.t None) a.out.now.room.now a.out.now.next t.1 _ (all (goal.at.loop-step-init c).After-into_iter-step-iterator) (pow_mono {j = 10} n.few) })

pub word_into-requires-clause-points : goal.word_into-requires-clause-points
word_into-requires-clause-points c =
    let q = c.in-Some.ensures.steps in
    (q.1, walked_below (turning_at c.loop-step.invariant.1 q) q.1 c.points_at-points.ensures (all (goal.at.word_into-requires-clause-points c).After-into_iter-step-iterator), λ x i. omega (arith, i))

pub word_into-requires-clause-room : goal.word_into-requires-clause-room
word_into-requires-clause-room c =
    let q = c.in-Some.ensures.steps in
    let few = those-few (in_set c.args.set.now.words) 0 (2 ^ c.args.n.count) in
    walked_room (turning_at c.loop-step.invariant.1 q) q.1 c.points_at-points.ensures (2 ^ 32) (omega (arith, c.requires, few, pow_mono {j = 10} c.args.n.few))

pub loop-step-preserved : goal.loop-step-preserved
loop-step-preserved c =
    let q = c.in-Some.ensures.steps in
    let i = c.loop-step.invariant in
    let p = c.word_into.ensures in
    (p.same_room ∙ i.0, turning_more i.1 q (walked_more (turning_at i.1 q) q.1 c.points_at-points.ensures (turning_steps i.1 q) p.stored))

pub returns-clause-stored : goal.returns-clause-stored
returns-clause-stored c = walked_end c.loop-step.invariant.1.next c.in-None.ensures.steps
