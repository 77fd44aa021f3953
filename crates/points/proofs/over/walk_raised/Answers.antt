use Rattle.points.proofs.Stepping.{raised_is}
use Rattle.points.proofs.over.walk_raised.Goals as goal

pub returns : goal.returns
returns c = raised_is c.args.c c.args.i c.requires.1 c.requires.2 (c.inverted.ensures c.args.n.count c.requires.0) c.walk_over.ensures
