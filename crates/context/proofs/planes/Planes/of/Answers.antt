use mathlib.Core.Path.{◌≡◌, refl, sym, ap, ◌∙◌}
use mathlib.Core.List.{List}
use Prim.Native.Nat.{ℕ, ◌+◌, ◌*◌, ◌≤◌, ◌<◌}
use native.Mathlib.Omega.{arith}
use lib.ListN.{length, set, drop, length-drop}
use lib.Pow.{pow_mono}
use Rattle.std.specs.Iterator.Adapters.{enumerate_count}
use Rattle.std.proofs.lemmas.List.{drop-drop}
use Rattle.blocks.proofs.Storing.{block_is}
use Rattle.context.specs.Planes.{plane_word}
use Rattle.context.proofs.PlaneWord.{Filled, filled_more, filled_plane}
use Rattle.context.proofs.Values.{planes_apart}
use Rattle.context.proofs.planes.Planes.of.Goals as goal
use Rattle.context.proofs.planes.Planes.of.Goals.{In-Some, In-None}

-- The block begins within the table, so its word is one of the sixteen.
low : (c : In-Some) → 64 * enumerate_count c.loop-w.w-iterator < length c.args.table.now
low c =
    let v = c.loop-w.invariant in
    let (t, is, next, fits) = c.in-Some.ensures.steps in
    let w = enumerate_count c.loop-w.w-iterator in
    let more : 0 < length (drop (64 * w) c.args.table.now) = rw v.rest at t.1.2 in
    omega (arith, more, length-drop (64 * w) c.args.table.now)

few : (c : In-Some) → enumerate_count c.loop-w.w-iterator < 16
few c = omega (arith, low c, c.requires, pow_mono {j = 10} c.args.n.few)

pub bounds-zeros-w : goal.bounds-zeros-w
bounds-zeros-w c = omega (arith, few (goal.at.bounds-zeros-w c).In-Some, c.in-Some.ensures.steps.1)

pub bounds-ones-w : goal.bounds-ones-w
bounds-ones-w c = omega (arith, few (goal.at.bounds-ones-w c).In-Some, c.in-Some.ensures.steps.1)

-- The word that is stored is the one that was read.
stored : {f : List ℕ} {v : ℕ} (words : List ℕ) (w : ℕ) (block : List ℕ) {word : ℕ} → word ≡ plane_word v block → Filled f v (set words w (plane_word v block)) (w + 1) → Filled f v (set words w word) (w + 1)
stored words w block e h = rw e h

pub loop-w-preserved : goal.loop-w-preserved
loop-w-preserved c =
    let v = c.loop-w.invariant in
    let w = enumerate_count c.loop-w.w-iterator in
    let table = c.args.table.now in
    let (t, is, next, fits) = c.in-Some.ensures.steps in
    let (same, (parts, long, some)) = t in
    let rest = drop (64 * w) table in
    let k = block_is rest c.in-Some.points.now _ (sym v.rest ∙ parts) (rw (v.size, v.rest) at long) in
    let e : 64 * w + 64 ≡ 64 * (w + 1) = omega arith in
    record {
      size = same ∙ v.size;
      rest = rw next (k.1 ∙ drop-drop 64 (64 * w) table ∙ ap (λ (y : ℕ). drop y table) e);
      zeros' = rw (next, is) (stored _ _ _ c.plane_words-zero_word.ensures.0 (filled_more v.zeros' (few (goal.at.loop-w-preserved c).In-Some) k.0));
      ones' = rw (next, is) (stored _ _ _ c.plane_words-zero_word.ensures.1 (filled_more v.ones' (few (goal.at.loop-w-preserved c).In-Some) k.0));
    }

-- All blocks are read.
all : (c : In-None) → length c.args.table.now ≤ 64 * enumerate_count c.loop-w.w-iterator
all c =
    let v = c.loop-w.invariant in
    let (t, same) = c.in-None.ensures.steps in
    let w = enumerate_count c.loop-w.w-iterator in
    let none : length (drop (64 * w) c.args.table.now) ≡ 0 = rw v.rest at t.1.0 in
    omega (arith, none, length-drop (64 * w) c.args.table.now)

pub invariant_of-result : goal.invariant_of-result
invariant_of-result c =
    let v = c.loop-w.invariant in
    record { are = planes_apart (filled_plane v.zeros' (all c)) (filled_plane v.ones' (all c)) c.requires }

pub returns : goal.returns
returns c =
    let v = c.loop-w.invariant in
    let l = all (goal.at.returns c).In-None in
    (refl, filled_plane v.zeros' l, filled_plane v.ones' l)
