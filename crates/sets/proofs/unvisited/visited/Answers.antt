use mathlib.Core.Path.{◌∙◌, ap₂}
use Rattle.hazard.specs.Cube.{span}
use Rattle.sets.proofs.Leaving.{visiting_more}
use Rattle.sets.proofs.unvisited.visited.Goals as goal

pub loop-t-preserved : goal.loop-t-preserved
loop-t-preserved c =
    let a = c.args.transitions in
    let e = c.at-ends.ensures in
    visiting_more a.n.count a.list.now c.loop-t.t c.loop-t.invariant (c.span_of.ensures.is ∙ ap₂ (span a.n.count) e.0 e.1) c.join_cube.ensures
