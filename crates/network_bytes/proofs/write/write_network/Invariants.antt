use Rattle.network_bytes.proofs.Writing.{Writing}
use Rattle.network_bytes.proofs.write.write_network.Given as goal

abbrev pub invariant-loop-j : goal.invariant-loop-j
invariant-loop-j l = Writing l.n.count l.products l.initial.cover l.cover l.j
