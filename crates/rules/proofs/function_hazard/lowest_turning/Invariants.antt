use Rattle.cube.specs.PointSet.{in_set}
use Rattle.points.proofs.Turning.{Turning}
use Rattle.points.proofs.Looking.{Looked}
use Rattle.moves.specs.Turn.{turns}
use Rattle.rules.proofs.function_hazard.lowest_turning.Given as goal

abbrev pub invariant-loop-step : goal.invariant-loop-step
invariant-loop-step l =
    let walk = l.initial.step-iterator.walk in
    Turning walk (Looked walk (turns l.n.count (in_set l.from.words) (in_set l.to.words) l.a l.b)) l.step-iterator
