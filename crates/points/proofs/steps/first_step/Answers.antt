use mathlib.Core.Path.{refl}
use native.Mathlib.Omega.{arith}
use Rattle.points.proofs.Stepping.{step_first}
use Rattle.points.proofs.steps.first_step.Goals as goal

pub returns : goal.returns
returns c = step_first c.args.k refl (omega arith) c.bits_at.ensures
