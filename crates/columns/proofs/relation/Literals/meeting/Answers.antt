use Rattle.std.proofs.Common.{rules}
use Rattle.columns.proofs.Words.{meeting_allowing}
use Rattle.columns.proofs.relation.Literals.meeting.Goals as goal

pub returns : goal.returns
returns c = meeting_allowing c.args.self.care c.args.self.value (search rules) (search rules)
