use mathlib.Core.Path.{sym, ◌∙◌}
use Prim.Native.Nat.{◌/◌, ◌<◌}
use lib.ListN.{length}
use Rattle.std.specs.Iterator.Adapters.{enumerate_count}
use Rattle.cube.proofs.Scan.{scan_hit, scan_miss, scan_end}
use Rattle.network_bytes.proofs.Bytes.{digits-found, digits-none}
use Rattle.network_bytes.proofs.Chunks.{chunk_turn, cut_step, cut_end, chunk_low, chunk_bad}
use Rattle.network_bytes.proofs.check.check_digits.Goals as goal
use Rattle.network_bytes.proofs.check.check_digits.Goals.{In-Some}

low : (c : In-Some) → enumerate_count c.loop-j.j-iterator < length c.args.bytes.now / c.args.n.count
low c = let t = chunk_turn _ _ c.in-Some.ensures.steps in chunk_low c.loop-j.invariant.0 c.requires.0 _ _ t.2 t.3

pub returns-then-bad_product : goal.returns-then-bad_product
returns-then-bad_product c =
    let a = c.args in
    let s = (goal.at.returns-then-bad_product c).In-Some in
    let t = chunk_turn _ _ c.in-Some.ensures.steps in
    digits-found a.n.count a.bytes.now (rw t.0) (scan_hit c.loop-j.invariant.1 (low s) (sym (chunk_bad c.loop-j.invariant.0 c.requires.0 _ _ t.2 t.3) ∙ sym c.bad_product.ensures ∙ c.if-bad_product.true))

pub loop-j-preserved : goal.loop-j-preserved
loop-j-preserved c =
    let s = (goal.at.loop-j-preserved c).In-Some in
    let t = chunk_turn _ _ c.in-Some.ensures.steps in
    let v = c.loop-j.invariant in
    (rw t.1 (cut_step v.0 c.requires.0 _ _ t.2 t.3 c.in-Some.ensures.steps.0.0), rw t.1 (scan_miss v.1 (low s) (sym (chunk_bad v.0 c.requires.0 _ _ t.2 t.3) ∙ sym c.bad_product.ensures ∙ c.if-bad_product.false)))

pub returns : goal.returns
returns c =
    let (t, same) = c.in-None.ensures.steps in
    let (size, (none, is), rem) = t in
    let v = c.loop-j.invariant in
    digits-none c.args.n.count c.args.bytes.now (scan_end v.1 (cut_end v.0 c.requires.0 none))
