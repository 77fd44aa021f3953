use lib.ListN.{length}
use Rattle.std.proofs.lemmas.Result.{err_from_is_err_and}
use Rattle.refusal.proofs.Checks.{refused}
use Rattle.verifier.proofs.Verifying.{input-refused}
use Rattle.verifier.proofs.verify.verify.Goals as goal

pub returns-in_err-checked-clause-verified : goal.returns-in_err-checked-clause-verified
returns-in_err-checked-clause-verified c =
    let a = c.args in
    let p = err_from_is_err_and c.from_residual.result c.from_residual.ensures.1 in
    rw (p.1, p.2) (input-refused a.n a.table.now a.transitions.now a.network.now (length a.wires.now) (refused c.check.ensures.refused c.in_err-checked.was))
