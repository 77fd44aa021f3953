use Rattle.cube.specs.Mask.{cube_of}
use Rattle.context.proofs.Reading.{added-found}
use Rattle.context.proofs.lowest.lowest_added.Goals as goal

pub returns : goal.returns
returns c other = let a = c.args in added-found other (cube_of a.n.count a.old) (cube_of a.n.count a.new) c.walk_added.ensures a.n.few c.lowest_on.ensures
