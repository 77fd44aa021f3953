use mathlib.Core.Path.{◌∙◌}
use Prim.Native.Nat.{◌/◌, ◌<◌}
use native.Mathlib.Omega.{arith}
use lib.ListN.{length, length-set}
use lib.Pow.{pow_pos}
use Rattle.std.specs.Iterator.Adapters.{enumerate_count}
use Rattle.cube.proofs.Word.{packed_is, packed_clean}
use Rattle.network_bytes.proofs.Bytes.{byte_le}
use Rattle.network_bytes.proofs.Chunks.{chunk_turn, cut_step, cut_end, chunk_low, chunk_long, chunk_is}
use Rattle.network_bytes.proofs.Reading.{reading_step, reading_end}
use Rattle.network_bytes.proofs.read.read_network.Goals as goal
use Rattle.network_bytes.proofs.read.read_network.Goals.{In-Some}

low : (c : In-Some) → enumerate_count c.loop-j.j-iterator < length c.args.network.bytes.now / c.args.network.n.count
low c = let t = chunk_turn _ _ c.in-Some.ensures.steps in chunk_low c.loop-j.invariant.0 c.args.network.sound.some' _ _ t.2 t.3

inside : (c : In-Some) → c.in-Some.j < length c.loop-j.out
inside c = omega (arith, (chunk_turn _ _ c.in-Some.ensures.steps).0, low c, c.loop-j.invariant.2, c.requires)

pub product_of-requires : goal.product_of-requires
product_of-requires c =
    let k = c.args.network in
    let s = (goal.at.product_of-requires c).In-Some in
    let t = chunk_turn _ _ c.in-Some.ensures.steps in
    let v = c.loop-j.invariant.0 in
    let some = k.sound.some' in
    let long = chunk_long v some _ _ t.2 t.3 in
    (omega (arith, long, k.sound.small), λ i h. rw (chunk_is v some _ _ t.2 t.3) (byte_le k.sound (low s) i (omega (arith, long, h))))

pub loop-j-preserved : goal.loop-j-preserved
loop-j-preserved c =
    let k = c.args.network in
    let s = (goal.at.loop-j-preserved c).In-Some in
    let t = chunk_turn _ _ c.in-Some.ensures.steps in
    let (v, r, long) = c.loop-j.invariant in
    let some = k.sound.some' in
    let d = rw (chunk_long v some _ _ t.2 t.3) at c.product_of.ensures in (
      rw t.1 (cut_step v some _ _ t.2 t.3 c.in-Some.ensures.steps.0.0),
      rw (t.1, t.0) (reading_step r (low s) (omega (arith, t.0, inside s)) (packed_is c.pack.ensures d ∙ chunk_is v some _ _ t.2 t.3) (packed_clean c.pack.ensures d (pow_pos k.n.count))),
      simp length-set long,
    )

pub returns : goal.returns
returns c =
    let (t, same) = c.in-None.ensures.steps in
    let (size, (none, is), rem) = t in
    let (v, r, long) = c.loop-j.invariant in
    rw c.count.ensures (reading_end r (cut_end v c.args.network.sound.some' none) (omega (arith, r.low, long, c.requires)))
