use Prim.Native.Nat.{◌/◌}
use lib.ListN.{length}
use Rattle.std.specs.Iterator.Adapters.{enumerate_source, enumerate_count}
use Rattle.std.specs.Slice.Iter.{chunks_exact_rest, chunks_exact_size}
use Rattle.hazard.specs.Search.{first}
use Rattle.cube.proofs.Scan.{Scan}
use Rattle.network_bytes.proofs.Bytes.{bad_at}
use Rattle.network_bytes.proofs.Chunks.{Cut}
use Rattle.network_bytes.proofs.check.check_digits.Given as goal

abbrev pub invariant-loop-j : goal.invariant-loop-j
invariant-loop-j l =
    let n = l.fn.n.count in
    let j = enumerate_count l.j-iterator in
    let chunks = enumerate_source l.j-iterator in
    Cut n l.bytes j (chunks_exact_size chunks) (chunks_exact_rest chunks) × Scan (bad_at n l.bytes) (length l.bytes / n) j (first (bad_at n l.bytes) 0 (length l.bytes / n))
