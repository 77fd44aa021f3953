use Rattle.refusal.proofs.Checks.{passed}
use Rattle.network_bytes.proofs.Bytes.{sound}
use Rattle.network_bytes.proofs.check.network_checks.Goals as goal

pub invariant_of-result : goal.invariant_of-result
invariant_of-result c =
    let a = c.args in
    record { sound = sound a.n.few c.requires a.bytes.now (passed c.check_products.ensures c.in_ok-check_products.was) (passed c.check_digits.ensures c.in_ok-check_digits.was) }
