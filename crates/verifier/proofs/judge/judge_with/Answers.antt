use Rattle.verifier.proofs.Judging.{read_few, claim_clean}
use Rattle.verifier.proofs.judge.judge_with.Goals as goal

pub first_fault-requires : goal.first_fault-requires
first_fault-requires c =
    let r = c.read_network-count.ensures in
    record { few = (read_few r c.args.claim.network.sound.few, read_few r c.requires.1); clean = claim_clean c.args.claim r }
