use mathlib.Core.Path.{refl}
use lib.Dec.{ltb}
use borrow.Author.Rules.{rules}
use Rattle.hazard.specs.Limits.{most_moving}
use Rattle.hazard.specs.Cube.{distance}
use Rattle.hazard.specs.Transition.{start, end, count}
use Rattle.hazard.specs.Refusal.{refusal}
use Rattle.kinds.proofs.Failures.{first_tested}
use Rattle.refusal.specs.Answer.{refused_by}
use Rattle.form.proofs.burst.check_bursts.Goals as goal

pub returns : goal.returns
returns c =
    let n = c.args.n.count in
    let ts = c.args.list.now in
    first_tested refused_by refl (λ e q. cc) (count ts) (λ k. ltb most_moving (distance n (start ts k) (end ts k))) (λ k. refusal 14 k 0) c.check_each.result c.check_each.ensures (λ k l r s. search rules)
