use mathlib.Core.Path.{sym, ap, ◌∙◌}
use Prim.Native.Nat.{ℕ}
use native.Mathlib.Omega.{arith}
use lib.ListN.{length-take}
use lib.Seq.{get_or-take}
use Rattle.std.specs.Prelude.{Some}
use Rattle.hazard.specs.Implicant.{illegal}
use Rattle.cube.specs.Mask.{cube_of}
use Rattle.cube.specs.Entry.{privileged_in}
use Rattle.legality.proofs.Illegal.{few_rows}
use Rattle.legality.proofs.Selecting.{rows_find-none, rows_find-low, rows_find}
use Rattle.legality.proofs.meeting.first_illegal.Goals as goal

pub returns-then-rows-eq0 : goal.returns-then-rows-eq0
returns-then-rows-eq0 c =
    let n = c.args.context.now.n.count in
    rows_find-none (illegal (cube_of n c.args.c)) (privileged_in n) c.illegal_rows-rows.ensures (few_rows c.args.context.now) c.if-rows-eq0.true

pub returns : goal.returns
returns c =
    let k = c.args.context.now in
    let rows = c.illegal_rows-rows.ensures in
    let low = rows_find-low (illegal (cube_of k.n.count c.args.c)) (privileged_in k.n.count) rows (few_rows k) (omega arith) (λ none. omega (arith, none)) in
    let first = rows_find (illegal (cube_of k.n.count c.args.c)) (privileged_in k.n.count) rows (few_rows k) (omega arith) (λ none. omega (arith, none)) in
    ap (λ (w : ℕ). Some (privileged_in k.n.count w)) (sym (get_or-take k.count k.privileged _ 0 (omega (arith, low, length-take k.count k.privileged)))) ∙ first
