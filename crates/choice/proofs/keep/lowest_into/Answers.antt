use mathlib.Core.Path.{◌≡◌, ◌∙◌}
use lib.ListN.{length}
use native.Mathlib.Omega.{arith}
use Rattle.std.specs.Iterator.Adapters.{rev_source, enumerate_source}
use Rattle.std.specs.Slice.Iter.{iter_rest}
use Rattle.choice.proofs.Lowering.{lowering_step, last_of_first}
use Rattle.choice.proofs.keep.lowest_into.Goals as goal

pub loop-i-preserved : goal.loop-i-preserved
loop-i-preserved c =
    let v = c.loop-i.invariant in
    let (same, (gives, place, small)) = c.in-Some.ensures.steps in
    let (long, low, is, left) = last_of_first c.args.firsts.now _ _ c.in-Some.first.now v.left gives in
    let e : c.in-Some.i ≡ length (iter_rest (enumerate_source (rev_source c.next.new.self))) = omega (arith, place, v.from) in
    record { from = same ∙ v.from; left = left; lowering = rw (e, is) (lowering_step (rw long at v.lowering) (omega (arith, c.requires.2 _ low, c.requires.1))) }
