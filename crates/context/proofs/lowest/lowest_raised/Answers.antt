use lib.ListN.{set}
use Rattle.cube.specs.Mask.{cube_of}
use Rattle.context.proofs.Reading.{added-found}
use Rattle.context.proofs.lowest.lowest_raised.Goals as goal

pub returns : goal.returns
returns c other = let a = c.args in added-found other (cube_of a.n.count a.c) (set (cube_of a.n.count a.c) a.i 2) c.walk_raised.ensures a.n.few c.lowest_on.ensures
