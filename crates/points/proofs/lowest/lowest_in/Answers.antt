use mathlib.Core.Path.{refl, ◌∙◌}
use Rattle.points.proofs.Agree.{lowest_agrees}
use Rattle.points.proofs.lowest.lowest_in.Goals as goal

pub returns : goal.returns
returns c = c.lowest_on.ensures ∙ lowest_agrees c.walk_over.ensures c.args.n.few (λ x l. refl)
