use native.Mathlib.Omega.{arith}
use Rattle.points.proofs.Masked.{set_word}
use Rattle.points.proofs.step.set_points.Goals as goal

pub returns : goal.returns
returns c = let a = c.args in set_word a.set.now a.s.word a.s.mask (omega arith)
