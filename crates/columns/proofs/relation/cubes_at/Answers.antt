use Rattle.columns.proofs.Words.{digit_rows}
use Rattle.columns.proofs.relation.cubes_at.Goals as goal

pub returns : goal.returns
returns c = digit_rows c.args.rows.now c.requires.1 c.column.ensures c.column-2.ensures
