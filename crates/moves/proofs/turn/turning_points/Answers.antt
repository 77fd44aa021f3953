use Rattle.cube.specs.PointSet.{in_set}
use Rattle.moves.specs.Further.{further_in}
use Rattle.points.proofs.Masked.{word_none, mask_and}
use Rattle.moves.proofs.turn.turning_points.Goals as goal

pub returns : goal.returns
returns c =
    let a = c.args in
    mask_and a.at.mask (in_set a.from.now.words) (further_in a.n.count (in_set a.to.now.words) a.a a.b) c.points_at-common.ensures c.further_word.ensures
