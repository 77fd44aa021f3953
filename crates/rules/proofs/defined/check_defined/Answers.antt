use mathlib.Core.Path.{refl}
use borrow.Author.Rules.{rules}
use Rattle.hazard.specs.Transition.{start, end, count, undefined_at}
use Rattle.hazard.specs.Refusal.{refusal}
use Rattle.context.specs.Context.{table_in}
use Rattle.kinds.proofs.Failures.{first_looked}
use Rattle.refusal.specs.Answer.{refused_by}
use Rattle.rules.proofs.Faults.{undefined_is}
use Rattle.rules.proofs.defined.check_defined.Goals as goal

pub returns : goal.returns
returns c =
    let p = c.args.planes.now in
    let n = p.n.count in
    let f = table_in p in
    let ts = c.args.transitions.list.now in
    first_looked refused_by refl (λ e q. cc) (count ts) (λ k. undefined_at n f (start ts k) (end ts k)) (λ p. refusal 6 p.0 p.1) c.check_each.result c.check_each.ensures
    (λ k l r s. let u = undefined_is p c.dont_cares-twos.ensures (start ts k) (end ts k) in search rules)
