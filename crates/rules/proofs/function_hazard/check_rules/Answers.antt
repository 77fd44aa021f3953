use mathlib.Core.Path.{refl}
use Prim.Native.Nat.{◌+◌, ◌*◌}
use Rattle.std.proofs.iter.Serving.{serving}
use borrow.Author.Rules.{rules}
use Rattle.hazard.specs.Transition.{start, end, count, function_hazard_at}
use Rattle.hazard.specs.Refusal.{refusal}
use Rattle.context.specs.Context.{table_in}
use Rattle.kinds.proofs.Coded.{few_points, ready_listed, ready_ends}
use Rattle.kinds.proofs.Failures.{first_looked}
use Rattle.refusal.specs.Answer.{refused_by}
use Rattle.rules.specs.Fault.{hazard_by}
use Rattle.rules.proofs.function_hazard.check_rules.Goals as goal

pub check_each-requires-clause-each : goal.check_each-requires-clause-each
check_each-requires-clause-each c t l =
    let r = c.args.problem.now in
    let h = ready_listed r.ready r.transitions.listed in
    let p = h.within (2 * t) in
    let q = h.within (2 * t + 1) in
    let u = few_points r.planes.n p in
    let v = few_points r.planes.n q in
    grind serving

pub returns : goal.returns
returns c =
    let r = c.args.problem.now in
    let n = r.planes.n.count in
    let f = table_in r.planes in
    let ts = r.transitions.list.now in
    first_looked refused_by refl (λ e q. cc) (count ts) (λ k. function_hazard_at n f (start ts k) (end ts k)) (λ p. refusal 7 p.0 p.1) c.check_each.result c.check_each.ensures
    (λ k l x s. let u = ready_ends r.ready r.transitions.listed k l (hazard_by n f) refl refl refl in search rules)
