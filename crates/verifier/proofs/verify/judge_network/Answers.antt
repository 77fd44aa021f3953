use mathlib.Core.Path.{◌∙◌}
use native.Mathlib.Omega.{arith}
use Rattle.checks.proofs.HandedOn.{checked-few}
use Rattle.verifier.proofs.Judging.{checked-fault}
use Rattle.verifier.proofs.verify.judge_network.Goals as goal

pub returns : goal.returns
returns c = let k = c.args.checked.now in c.judge.ensures ∙ checked-fault k c.args.network.n c.requires _ _ (checked-few k (omega arith))
