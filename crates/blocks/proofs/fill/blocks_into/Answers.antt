use mathlib.Core.Path.{◌≡◌, sym, ap, ◌∙◌}
use Prim.Native.Nat.{ℕ, ◌+◌, ◌*◌, ◌<◌}
use native.Mathlib.Omega.{arith}
use lib.ListN.{length, drop, length-drop}
use Rattle.std.specs.Iterator.Adapters.{enumerate_count}
use Rattle.std.proofs.lemmas.List.{drop-drop}
use Rattle.blocks.proofs.Storing.{block_is, filled_step, filled-end}
use Rattle.blocks.proofs.fill.blocks_into.Goals as goal

pub loop-b-preserved : goal.loop-b-preserved
loop-b-preserved c =
    let v = c.loop-b.invariant in
    let f = c.block_into in
    let b = enumerate_count c.loop-b.b-iterator in
    let rows = c.args.rows.now in
    let (t, is, next, fits) = c.in-Some.ensures.steps in
    let (same, (parts, long, some)) = t in
    let rest = drop (64 * b) rows in
    let more : 0 < length rest = rw v.rest at some in
    let low : 64 * b < length rows = omega (arith, more, length-drop (64 * b) rows) in
    let k = block_is rest c.in-Some.block.now _ (sym v.rest ∙ parts) (rw (v.size, v.rest) at long) in
    let e : 64 * b + 64 ≡ 64 * (b + 1) = omega arith in
    record {
      size = same ∙ v.size;
      rest = rw next (k.1 ∙ drop-drop 64 (64 * b) rows ∙ ap (λ (y : ℕ). drop y rows) e);
      long = f.auto.columns ∙ v.long;
      filled = rw next (filled_step v.filled low (omega (arith, low, v.long, c.requires)) c.in-Some.block.now f.new.columns k.0 (rw is at f.ensures));
    }

pub returns : goal.returns
returns c =
    let v = c.loop-b.invariant in
    let (t, same) = c.in-None.ensures.steps in
    let b = enumerate_count c.loop-b.b-iterator in
    let none : length (drop (64 * b) c.args.rows.now) ≡ 0 = rw v.rest at t.1.0 in
    filled-end v.filled (omega (arith, none, length-drop (64 * b) c.args.rows.now))
