use Rattle.packing.proofs.Exact.{promise_fits}
use Rattle.quiet_c.proofs.quiet_minimise.Goals as goal

pub packed_answer-requires : goal.packed_answer-requires
packed_answer-requires c = promise_fits c.minimise.ensures
