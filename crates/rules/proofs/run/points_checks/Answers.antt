use Rattle.refusal.proofs.Checks.{passed}
use Rattle.rules.proofs.Ready.{defined_ready}
use Rattle.rules.proofs.run.points_checks.Goals as goal

pub invariant_of-problem : goal.invariant_of-problem
invariant_of-problem c =
    let t = c.args.transitions in
    record { ready = defined_ready c.args.planes t.n.count t.list.now c.requires t.listed (passed c.check_defined.ensures c.in_ok-check_defined.was) }
