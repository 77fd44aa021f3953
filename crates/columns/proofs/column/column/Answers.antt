use Rattle.std.proofs.Common.{rules}
use mathlib.Core.Path.{◌≡◌, refl}
use mathlib.Core.List.{reverse}
use Prim.Native.Nat.{◌≤◌}
use native.Mathlib.Omega.{arith}
use lib.ListN.{length}
use Rattle.std.proofs.lemmas.List.{length-reverse, reverse-reverse}
use Rattle.std.proofs.lemmas.Fn.{fold_over}
use Rattle.std.proofs.lemmas.Iterator.Adapters.{YieldsList-from_rev_slice}
use Rattle.std.specs.Iterator.Adapters.{rev_steps}
use Rattle.std.specs.Slice.Iter.{iter_steps_back}
use Rattle.columns.specs.Column.{column_of}
use Rattle.columns.proofs.ColumnBits.{column_more}
use Rattle.columns.proofs.column.column.Goals as goal

pub returns : goal.returns
unfolding column_of
returns c =
    let ws = c.args.words.now in
    let b = c.args.b in
    let whole = fold_over (rev_steps iter_steps_back) (λ y. y.now) _ (λ ys a. length ys ≤ 64 → a ≡ column_of b (reverse ys)) _
    (λ ys a x r f' j k. search (rules, column_more b ys x.now a j)) c.rev.result (reverse ws) _ _ (YieldsList-from_rev_slice ws (search rules)).runs (λ h. refl) c.fold.ensures.ran in
    rw (reverse-reverse ws) at (whole (omega (arith, length-reverse ws)))
