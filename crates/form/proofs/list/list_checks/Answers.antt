use mathlib.Core.Path.{◌∙◌, sym}
use mathlib.Core.List.{[], ◌∷◌}
use Rattle.hazard.specs.Refusal.{list_check, ends_check, bursts_check}
use Rattle.hazard.proofs.Rules.{list_few}
use Rattle.refusal.proofs.Checks.{passed, run_stays, run_passed, alone}
use Rattle.form.proofs.Formed.{listed_of}
use Rattle.form.proofs.list.list_checks.Goals as goal

pub invariant_of-result : goal.invariant_of-result
invariant_of-result c =
    let a = c.args in
    record { listed = listed_of a.n.count a.list.now (passed c.check_list.ensures c.in_ok-check_list.was) (passed c.check_ends.ensures c.in_ok-check_ends.was) (passed c.check_bursts.ensures c.in_ok-check_bursts.was) }
