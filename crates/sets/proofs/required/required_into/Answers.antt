use mathlib.Core.Path.{◌≡◌, ap, ◌∙◌}
use Prim.Native.Nat.{◌+◌, ◌-◌, ◌*◌, ◌^◌, ◌<◌, ◌≤◌}
use native.Mathlib.Omega.{arith}
use lib.ListN.{length, length-append}
use Rattle.hazard.specs.Transition as spec
use Rattle.hazard.specs.Sets.{required_of, required_from, of_transitions}
use Rattle.hazard.proofs.Few.{transitions-few}
use Rattle.context.specs.Context.{table_in}
use Rattle.kinds.specs.Codes.{kind_is}
use Rattle.kinds.specs.declared.problem.Problem.{Problem}
use Rattle.kinds.proofs.Coded.{few_points, ready_listed, ready_ends}
use Rattle.entries.proofs.Filling.{filling_room, filling_more, filling_end, stored_as, stored_then}
use Rattle.sets.specs.Held.{required_by}
use Rattle.sets.proofs.Gather.{held, required_step, required_done}
use borrow.Author.Rules.{rules}
use Rattle.sets.proofs.required.required_into.Goals as goal
use Rattle.sets.proofs.required.required_into.Goals.{After-kind_of-kind}

pub kind_of-kind-requires : goal.kind_of-kind-requires
kind_of-kind-requires c =
    let l = c.args.problem.now.transitions in
    let t = c.loop-t.t in
    (rw c.at-ends.ensures.0 (few_points l.n (l.listed.within (2 * t))), rw c.at-ends.ensures.1 (few_points l.n (l.listed.within (2 * t + 1))))

-- Transition t is one of the list, and what was read of it makes its required cubes.
inside : (c : After-kind_of-kind) → c.loop-t.t < spec.count c.args.problem.now.transitions.list.now
inside c = omega (arith, c.count-count.ensures, c.loop-t-test.true)

made : (c : After-kind_of-kind) → let p = c.args.problem.now in
    required_by p.planes.n.count (table_in p.planes) (kind_is c.kind_of-kind.result) c.loop-t.t c.at-ends.result.start c.at-ends.result.end ≡ required_of p.planes.n.count (table_in p.planes) p.transitions.list.now c.loop-t.t
made c =
    let p = c.args.problem.now in
    ready_ends p.ready p.transitions.listed c.loop-t.t (inside c) (λ k x y. required_by p.planes.n.count (table_in p.planes) k c.loop-t.t x y) c.kind_of-kind.ensures c.at-ends.ensures.0 c.at-ends.ensures.1

-- The required cubes of the transitions are few.
few : (p : Problem) → length (of_transitions p.planes.n.count (table_in p.planes) p.transitions.list.now) ≤ 32 * 64
few p =
    let l = ready_listed p.ready p.transitions.listed in
    let ts = p.transitions.list.now in
    omega (arith, transitions-few p.planes.n.count (table_in p.planes) ts l.narrow 0 (spec.count ts) (omega arith), l.few)

pub transition_into-requires-clause-room : goal.transition_into-requires-clause-room
transition_into-requires-clause-room c =
    let p = c.args.problem.now in
    let n = p.planes.n.count in
    let f = table_in p.planes in
    let ts = p.transitions.list.now in
    let l = c.loop-t in
    let g = (goal.at.transition_into-requires-clause-room c).After-kind_of-kind in
    let most = filling_room l.invariant.1 (2 ^ 32) (omega (arith, few p)) in
    let step = ap length (required_step n f ts l.t (inside g)) ∙ length-append (required_of n f ts l.t) (required_from n f ts (l.t + 1) (spec.count ts - (l.t + 1))) in
    omega (arith, most, step, ap length (made g))

pub loop-t-preserved : goal.loop-t-preserved
loop-t-preserved c =
    let p = c.args.problem.now in
    let i = c.loop-t.invariant in
    let q = c.transition_into.ensures in
    let g = (goal.at.loop-t-preserved c).After-kind_of-kind in
    (q.same_room ∙ i.0, filling_more i.1 (stored_as (made g) q.stored) (required_step p.planes.n.count (table_in p.planes) p.transitions.list.now c.loop-t.t (inside g)))

pub points_into-requires : goal.points_into-requires
points_into-requires c =
    let most = filling_room c.loop-t.invariant.1 (32 * 64) (omega (arith, few c.args.problem.now)) in
    omega (arith, most)

pub returns : goal.returns
returns c =
    let p = c.args.problem.now in
    let l = c.loop-t in
    let e = required_done p.planes.n.count (table_in p.planes) p.transitions.list.now l.t (omega (arith, c.count-count.ensures, c.loop-t-test.false)) in
    let h = rw c.count-count.ensures at (held (stored_then (filling_end l.invariant.1 e) c.points_into.ensures.stored)) in
    search rules
