use Rattle.std.proofs.Common.{rules}
use Rattle.columns.proofs.Words.{containing_allowing}
use Rattle.columns.proofs.relation.Literals.containing.Goals as goal

pub returns : goal.returns
returns c = containing_allowing c.args.self.care c.args.self.value (search rules) c.meeting.ensures
