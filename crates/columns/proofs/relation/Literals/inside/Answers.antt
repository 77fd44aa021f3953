use Rattle.columns.proofs.Words.{inside_allowing}
use Rattle.columns.proofs.relation.Literals.inside.Goals as goal

pub returns : goal.returns
returns c = inside_allowing _ _
