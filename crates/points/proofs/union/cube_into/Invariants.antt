use Rattle.points.proofs.Turning.{Turning}
use Rattle.points.proofs.Uniting.{Uniting}
use Rattle.points.proofs.union.cube_into.Given as goal

abbrev pub invariant-loop-step : goal.invariant-loop-step
invariant-loop-step l = Turning l.initial.step-iterator.walk (Uniting l.initial.step-iterator.walk l.initial.set l.set) l.step-iterator
