use native.Mathlib.Omega.{arith}
use Rattle.flags.proofs.Placing.{placed_step, placed_end}
use Rattle.flags.proofs.put.put.Goals as goal

pub loop-b-preserved : goal.loop-b-preserved
loop-b-preserved g c d = placed_step (c.loop-b.invariant d) (omega arith) c.put_word.new.places (c.put_word.ensures d)

pub returns : goal.returns
returns g c d = placed_end (c.loop-b.invariant d) (omega arith)
