use Rattle.std.proofs.lemmas.Result.{err_from_is_err_and}
use Rattle.refusal.proofs.Checks.{refused}
use Rattle.minimiser.proofs.Answering.{input-declined}
use Rattle.minimiser.proofs.minimise.minimise.Goals as goal

pub returns-in_err-checked : goal.returns-in_err-checked
returns-in_err-checked c =
    let a = c.args in
    let p = err_from_is_err_and c.from_residual.result c.from_residual.ensures.1 in
    rw (p.1, p.2) (input-declined a.n a.table.now a.transitions.now a.cover.now (refused c.check.ensures.refused c.in_err-checked.was))
