use mathlib.Core.Path.{◌≡◌}
use lib.ListN.{length, take}
use Rattle.std.specs.Iterator.Adapters.{rev_source, enumerate_source, enumerate_count}
use Rattle.std.specs.Slice.Iter.{iter_rest}
use Rattle.choice.proofs.Lowering.{Lowering}
use Rattle.choice.proofs.keep.lowest_into.Given as goal

abbrev pub invariant-loop-i : goal.invariant-loop-i
invariant-loop-i l =
    let pairs = rev_source l.i-iterator in
    let rest = iter_rest (enumerate_source pairs) in
    record {
      from : enumerate_count pairs ≡ 0;
      left : rest ≡ take (length rest) l.firsts;
      lowering : Lowering l.firsts l.initial.lowest l.lowest (length rest);
    }
