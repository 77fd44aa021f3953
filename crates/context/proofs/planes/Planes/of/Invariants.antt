use mathlib.Core.Path.{◌≡◌}
use Prim.Native.Nat.{◌*◌}
use lib.ListN.{drop}
use Rattle.std.specs.Iterator.Adapters.{enumerate_source, enumerate_count}
use Rattle.std.specs.Slice.Iter.{chunks_rest, chunks_size}
use Rattle.context.proofs.PlaneWord.{Filled}
use Rattle.context.proofs.planes.Planes.of.Given as goal

abbrev pub invariant-loop-w : goal.invariant-loop-w
invariant-loop-w l =
    let w = enumerate_count l.w-iterator in
    let blocks = enumerate_source l.w-iterator in
    record {
      size : chunks_size blocks ≡ 64;
      rest : chunks_rest blocks ≡ drop (64 * w) l.table;
      zeros' : Filled l.table 0 l.zeros.words w;
      ones' : Filled l.table 1 l.ones.words w;
    }
