use mathlib.Core.Path.{◌∙◌}
use mathlib.Core.Bool.{Bool, not}
use Prim.Native.Nat.{ℕ}
use lib.Dec.{eqb}
use borrow.Author.Rules.{rules}
use borrow.Author.Tests.{tests}
use Rattle.std.proofs.lemmas.Iterator.{YieldsList-from_slice}
use Rattle.std.proofs.lemmas.Iterator.Search.{any_from_yields_List}
use Rattle.cube.proofs.Scan.{any_places}
use Rattle.rows.proofs.whole.has_row.Goals as goal

pub returns : goal.returns
returns c =
    let test : ℕ → Bool = λ word. not (eqb word 0) in
    any_from_yields_List test _ _ _ c.any.ensures.ran (YieldsList-from_slice c.args.set.now cc) (λ x b q k. search (rules, tests))
    ∙ any_places test 0 c.args.set.now
