use native.Mathlib.Omega.{arith}
use Rattle.points.proofs.Stepping.{step_next}
use Rattle.points.proofs.steps.next_step.Goals as goal

pub returns : goal.returns
returns c = step_next c.args.k c.next-w.ensures (omega arith) c.bits_at.ensures
