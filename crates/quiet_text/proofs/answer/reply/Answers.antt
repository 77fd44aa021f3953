use Rattle.quiet_text.proofs.Solving.{printed-from}
use Rattle.quiet_text.proofs.Answering.{replied_malformed, replied_solved}
use Rattle.quiet_text.proofs.answer.reply.Goals as goal

pub returns-in-None : goal.returns-in-None
returns-in-None c = replied_malformed c.requires c.in-None.ensures (printed-from c.put_refusal.ensures)

pub returns-in-Some : goal.returns-in-Some
returns-in-Some c = replied_solved c.requires c.in-Some.ensures c.solve.ensures
