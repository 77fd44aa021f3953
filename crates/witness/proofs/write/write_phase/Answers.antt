use mathlib.Core.Path.{◌≡◌}
use Prim.Native.Nat.{◌/◌, ◌<◌}
use native.Mathlib.Omega.{arith}
use lib.ListN.{length}
use Rattle.std.specs.Iterator.Adapters.{enumerate_count}
use Rattle.hazard.specs.Cover.{product_at}
use Rattle.hazard.specs.Verdict.{products}
use Rattle.hazard.proofs.Verdict.{products-length}
use Rattle.kinds.specs.Codes.{kind_is}
use Rattle.network_bytes.proofs.Chunks.{chunk_turn, cut_step, cut_end, chunk_low, chunk_long, chunk_is}
use Rattle.witness.proofs.Phases.{product-room, product-turn, products_wrote}
use Rattle.witness.proofs.write.write_phase.Goals as goal
use Rattle.witness.proofs.write.write_phase.Goals.{In-Some}

low : (c : In-Some) → enumerate_count c.loop-m.m-iterator < length c.args.network.bytes.now / c.args.network.n.count
low c = let t = chunk_turn _ _ c.in-Some.ensures.steps in chunk_low c.loop-m.invariant.0 c.args.network.sound.some' _ _ t.2 t.3

few : (c : In-Some) → enumerate_count c.loop-m.m-iterator < length (products c.args.network.n.count c.args.network.bytes.now)
few c = omega (arith, low c, products-length c.args.network.n.count c.args.network.bytes.now)

product : (c : In-Some) → c.in-Some.digits.now ≡ product_at (products c.args.network.n.count c.args.network.bytes.now) (enumerate_count c.loop-m.m-iterator)
product c = let t = chunk_turn _ _ c.in-Some.ensures.steps in chunk_is c.loop-m.invariant.0 c.args.network.sound.some' _ _ t.2 t.3

pub write_product-at-requires : goal.write_product-at-requires
write_product-at-requires c =
    let a = c.args in
    let k = a.network in
    let s = (goal.at.write_product-at-requires c).In-Some in
    let t = chunk_turn _ _ c.in-Some.ensures.steps in (
      omega (arith, chunk_long c.loop-m.invariant.0 k.sound.some' _ _ t.2 t.3, k.sound.small),
      rw t.0 (product-room (kind_is a.p.kind) a.p.product a.p.ends.start a.p.ends.end a.q (products k.n.count k.bytes.now) a.wires.now (few s) (product s) c.loop-m.invariant.1 c.requires),
    )

pub loop-m-preserved : goal.loop-m-preserved
loop-m-preserved c =
    let a = c.args in
    let k = a.network in
    let s = (goal.at.loop-m-preserved c).In-Some in
    let t = chunk_turn _ _ c.in-Some.ensures.steps in
    let v = c.loop-m.invariant in (
      rw t.1 (cut_step v.0 k.sound.some' _ _ t.2 t.3 c.in-Some.ensures.steps.0.0),
      rw t.1 (product-turn (kind_is a.p.kind) a.p.product a.p.ends.start a.p.ends.end a.q (products k.n.count k.bytes.now) a.wires.now (few s) (product s) v.1 (rw t.0 at c.write_product-at.ensures)),
    )

pub returns : goal.returns
returns c =
    let a = c.args in
    let k = a.network in
    let (t, same) = c.in-None.ensures.steps in
    let (size, (none, is), rem) = t in
    let v = c.loop-m.invariant in
    products_wrote (kind_is a.p.kind) a.p.product a.p.ends.start a.p.ends.end a.q (products k.n.count k.bytes.now) a.wires.now {m = enumerate_count c.loop-m.m-iterator}
    (omega (arith, cut_end v.0 k.sound.some' none, products-length k.n.count k.bytes.now)) v.1
