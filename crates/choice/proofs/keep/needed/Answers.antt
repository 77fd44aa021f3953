use Rattle.choice.specs.Keep.{needed_in}
use Rattle.hazard.proofs.Test.{T_and, is, so}
use Rattle.hazard.proofs.Search.{any_i}
use Rattle.hazard.specs.Search.{found, first}
use mathlib.Core.Bool.{false, not}
use lib.Dec.{eqb}
use lib.ListN.{length, get_or}
use borrow.Author.Rules.{rules}
use mathlib.Core.Path.{sym, ◌∙◌}
use Rattle.choice.proofs.keep.needed.Goals as goal
use Rattle.choice.proofs.keep.needed.Goals.{then-i-firsts, else-i-firsts, then-firsts-i, else-firsts-i}

pub returns-then-not-flags-i : goal.returns-then-not-flags-i
returns-then-not-flags-i c =
    let a = c.args in
    let t = needed_in a.firsts.now a.flags.now a.j in
    elim c.if-firsts-i.branch [
      | then-firsts-i w ↦ elim c.if-i-firsts.branch [
        | then-i-firsts v ↦
            let here = (T_and (eqb (get_or a.firsts.now a.lowest 0) a.j) (not (get_or a.flags.now a.lowest false))).1 (so (sym v.value-is ∙ w.if-firsts-i.true), so (sym w.value-is ∙ c.if-not-flags-i.true)) in
            c.if-not-flags-i.true ∙ sym (is {b = found (first t 0 (length a.firsts.now))} (any_i t (length a.firsts.now) a.lowest v.if-i-firsts.true here))
        | else-i-firsts v ↦ search rules
      ]
      | else-firsts-i w ↦ search rules
    ]
