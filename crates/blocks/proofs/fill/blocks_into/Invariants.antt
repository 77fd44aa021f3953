use mathlib.Core.Path.{◌≡◌}
use Prim.Native.Nat.{◌*◌}
use lib.ListN.{length, drop}
use Rattle.std.specs.Iterator.Adapters.{enumerate_source, enumerate_count}
use Rattle.std.specs.Slice.Iter.{chunks_rest, chunks_size}
use Rattle.blocks.proofs.Storing.{Filled}
use Rattle.blocks.proofs.fill.blocks_into.Given as goal

abbrev pub invariant-loop-b : goal.invariant-loop-b
invariant-loop-b l =
    let b = enumerate_count l.b-iterator in
    let blocks = enumerate_source l.b-iterator in
    record {
      size : chunks_size blocks ≡ 64;
      rest : chunks_rest blocks ≡ drop (64 * b) l.rows;
      long : length l.columns ≡ length l.initial.columns;
      filled : Filled l.rel l.n.count l.rows l.columns b;
    }
