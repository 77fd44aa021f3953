use mathlib.Core.Path.{◌∙◌}
use native.Mathlib.Omega.{arith}
use Rattle.checks.proofs.HandedOn.{all-room, all-stored}
use Rattle.verifier.proofs.Judging.{checked-fault}
use Rattle.verifier.proofs.verify.judge_large.Goals as goal

pub slice_bounds-judge-end : goal.slice_bounds-judge-end
slice_bounds-judge-end c = all-room c.args.checked.now.problem c.store_required-count.ensures (omega arith)

pub returns : goal.returns
returns c =
    let k = c.args.checked.now in
    c.judge.ensures ∙ checked-fault k c.args.network.n c.requires _ _ (all-stored k.problem c.store_required-count.ensures (omega arith))
