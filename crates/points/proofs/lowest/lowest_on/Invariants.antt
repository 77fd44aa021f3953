use Rattle.cube.specs.PointSet.{in_set}
use Rattle.points.proofs.Turning.{Turning}
use Rattle.points.proofs.Looking.{Looked}
use Rattle.points.proofs.lowest.lowest_on.Given as goal

abbrev pub invariant-loop-step : goal.invariant-loop-step
invariant-loop-step l = Turning l.fn.k (Looked l.fn.k (in_set l.set)) l.step-iterator
