use Rattle.columns.proofs.Words.{point_rows}
use Rattle.columns.proofs.relation.points_at.Goals as goal

pub returns : goal.returns
returns c = point_rows c.args.rows.now c.requires.1 c.requires.0 c.column.ensures
