use Rattle.std.specs.Iterator.Adapters.{enumerate_source, enumerate_count}
use Rattle.std.specs.Slice.Iter.{chunks_exact_rest, chunks_exact_size}
use Rattle.hazard.specs.Verdict.{products}
use Rattle.kinds.specs.Codes.{kind_is}
use Rattle.network_bytes.proofs.Chunks.{Cut}
use Rattle.witness.proofs.Phases.{ProductsLeft}
use Rattle.witness.proofs.write.write_phase.Given as goal

abbrev pub invariant-loop-m : goal.invariant-loop-m
invariant-loop-m l =
    let n = l.network.n.count in
    let bytes = l.network.bytes.now in
    let m = enumerate_count l.m-iterator in
    let chunks = enumerate_source l.m-iterator in
    Cut n bytes m (chunks_exact_size chunks) (chunks_exact_rest chunks) × ProductsLeft (kind_is l.p.kind) l.p.product l.p.ends.start l.p.ends.end l.q (products n bytes) l.initial.wires l.wires l.at m
