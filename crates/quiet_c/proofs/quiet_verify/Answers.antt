use Rattle.packing.proofs.Exact.{verified-fits}
use Rattle.quiet_c.proofs.quiet_verify.Goals as goal

pub packed_verdict-requires : goal.packed_verdict-requires
packed_verdict-requires c = verified-fits c.verify.ensures.verified c.verify.ensures.shown
