use Rattle.points.proofs.Stepping.{added_is}
use Rattle.points.proofs.over.walk_added.Goals as goal

pub returns : goal.returns
returns c =
    added_is _ c.requires.1 c.in_ten-e.ensures c.word_cube.ensures c.low_mask.ensures c.requires.0 c.in_ten-d.ensures c.word_cube-2.ensures c.low_mask-2.ensures
