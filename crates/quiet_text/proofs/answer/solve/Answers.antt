use native.Mathlib.Omega.{arith}
use Rattle.quiet_text.proofs.Solving.{solved-refused, solved-written, printed-from}
use Rattle.quiet_text.proofs.answer.solve.Goals as goal

pub returns-in-Err : goal.returns-in-Err
returns-in-Err c = solved-refused (omega arith) c.in-Err.ensures (printed-from c.put_refusal.ensures)

pub returns-in-Ok : goal.returns-in-Ok
returns-in-Ok c = solved-written (omega arith) c.in-Ok.ensures c.put_network.ensures
