use mathlib.Core.Path.{refl}
use Rattle.points.proofs.Stepping.{over-is}
use Rattle.points.proofs.over.walk_over.Goals as goal

pub returns : goal.returns
returns c = over-is _ c.requires c.in_ten-d.ensures c.word_cube.ensures c.low_mask.ensures refl
