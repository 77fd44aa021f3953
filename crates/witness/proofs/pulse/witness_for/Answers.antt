use Rattle.witness.proofs.Shows.{product_run}
use Rattle.witness.proofs.pulse.witness_for.Goals as goal

pub returns-in-Intersects : goal.returns-in-Intersects
returns-in-Intersects c planes n r net =
    let d = c.in-Intersects in
    rw d.is (product_run r net d.transition (rw d.is at c.requires.1) c.pulse_at.ensures)

pub returns-in-Uncovered : goal.returns-in-Uncovered
returns-in-Uncovered c planes n r net = let d = c.in-Uncovered in rw d.is (c.for_cube.ensures planes n r 0 net)
