use Rattle.cube.specs.PointSet.{in_set}
use Rattle.moves.specs.Further.{further_in}
use Rattle.points.proofs.Masked.{mask_but}
use Rattle.moves.proofs.turn.last_points.Goals as goal

pub returns : goal.returns
returns c =
    let a = c.args in
    mask_but a.at.mask (in_set a.set.now.words) (further_in a.n.count (in_set a.set.now.words) a.s a.e) c.points_at.ensures c.turning_points.ensures
