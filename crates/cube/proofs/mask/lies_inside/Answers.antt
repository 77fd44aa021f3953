use Rattle.cube.proofs.Masks.{inside_masks}
use Rattle.cube.proofs.mask.lies_inside.Goals as goal

pub returns : goal.returns
returns c n h = inside_masks n _ _ _ _ h
