use mathlib.Core.Path.{ap, ◌∙◌}
use mathlib.Core.Bool.{cond}
use mathlib.Core.List.{[], ◌∷◌}
use Prim.Native.Nat.{◌*◌, ◌+◌, ◌<◌}
use native.Mathlib.Omega.{arith}
use lib.ListN.{length}
use Rattle.hazard.specs.Transition as spec
use Rattle.hazard.specs.Sets.{dynamic, kind_at}
use Rattle.context.specs.Context.{table_in}
use Rattle.kinds.proofs.Coded.{few_points, ready_ends}
use Rattle.entries.proofs.Filling.{filling_more, stored_as}
use Rattle.sets.specs.Held.{privileged_by}
use Rattle.sets.proofs.Gather.{privileged_step, entry_few}
use Rattle.sets.proofs.privileged.privileged_into.Goals as goal

pub kind_of-kind-requires : goal.kind_of-kind-requires
kind_of-kind-requires c =
    let l = c.args.problem.now.transitions in
    let t = c.loop-t.t in
    (rw c.at-ends.ensures.0 (few_points l.n (l.listed.within (2 * t))), rw c.at-ends.ensures.1 (few_points l.n (l.listed.within (2 * t + 1))))

pub loop-t-preserved : goal.loop-t-preserved
loop-t-preserved c =
    let p = c.args.problem.now in
    let n = p.planes.n.count in
    let f = table_in p.planes in
    let ts = p.transitions.list.now in
    let t = c.loop-t.t in
    let i = c.loop-t.invariant in
    let h : t < spec.count ts = omega (arith, c.count-t-end.ensures, c.loop-t-test.true) in
    let q = c.store_privileged.ensures in
    let e = ready_ends p.ready p.transitions.listed t h (λ k x y. cond (dynamic k) (privileged_by n k t x y ∷ []) []) c.kind_of-kind.ensures c.at-ends.ensures.0 c.at-ends.ensures.1 in
    let few = entry_few (dynamic (kind_at f ts t)) (privileged_by n (kind_at f ts t) t (spec.start ts t) (spec.end ts t)) in
    (q.same_room ∙ i.0, omega (arith, q.stored.size, ap length e, few, i.1), filling_more i.2 (stored_as e q.stored) (privileged_step n f ts t h))
