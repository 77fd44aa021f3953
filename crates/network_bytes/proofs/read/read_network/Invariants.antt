use mathlib.Core.Path.{◌≡◌}
use lib.ListN.{length}
use Rattle.std.specs.Iterator.Adapters.{enumerate_source, enumerate_count}
use Rattle.std.specs.Slice.Iter.{chunks_exact_rest, chunks_exact_size}
use Rattle.network_bytes.proofs.Chunks.{Cut}
use Rattle.network_bytes.proofs.Reading.{Reading}
use Rattle.network_bytes.proofs.read.read_network.Given as goal

abbrev pub invariant-loop-j : goal.invariant-loop-j
invariant-loop-j l =
    let n = l.network.n.count in
    let bytes = l.network.bytes.now in
    let j = enumerate_count l.j-iterator in
    let chunks = enumerate_source l.j-iterator in
    Cut n bytes j (chunks_exact_size chunks) (chunks_exact_rest chunks) × Reading n bytes l.out j × (length l.out ≡ length l.initial.out)
