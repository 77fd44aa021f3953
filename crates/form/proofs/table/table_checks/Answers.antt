use mathlib.Core.Path.{◌∙◌, sym}
use mathlib.Core.List.{[], ◌∷◌}
use native.Mathlib.Omega.{arith}
use lib.Pow.{pow_mono}
use Rattle.hazard.specs.Refusal.{length_check, bytes_check}
use Rattle.hazard.proofs.Rules.{length_whole}
use Rattle.refusal.proofs.Checks.{passed, run_stays, run_passed, alone}
use Rattle.form.proofs.table.table_checks.Goals as goal

pub check_bytes-requires : goal.check_bytes-requires
check_bytes-requires c =
    omega (arith, length_whole c.args.n.count c.args.table.now (passed c.check_length.ensures c.in_ok-check_length.was), pow_mono {j = 10} c.args.n.few)
