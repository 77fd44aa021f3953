use mathlib.Core.Path.{◌≡◌, ap, ◌∙◌}
use Prim.Native.Nat.{ℕ}
use mathlib.Core.Bool.{Bool, false, not, ◌&&◌}
use native.Mathlib.Omega.{arith}
use lib.Dec.{eqb}
use lib.ListN.{length}
use borrow.Author.Rules.{rules}
use borrow.Author.Tests.{tests}
use Rattle.std.specs.List.{zip}
use Rattle.std.proofs.lemmas.Iterator.{YieldsList-from_slice, YieldsList-from_zip}
use Rattle.std.proofs.lemmas.Iterator.Search.{any_from_yields_List}
use Rattle.std.proofs.lemmas.Slice.Zip.{length-zip, get_or-zip}
use Rattle.hazard.specs.Search.{found}
use Rattle.hazard.proofs.Search.{first-same}
use Rattle.cube.proofs.Scan.{any_places}
use Rattle.choice.specs.Keep.{needed_in}
use Rattle.choice.proofs.keep.needed_by_any.Goals as goal

pub returns : goal.returns
returns c =
    let a = c.args in
    let test : ℕ × Bool → Bool = λ p. eqb p.0 a.j && not p.1 in
    let pairs = zip a.firsts.now a.flags.now in
    let size : length pairs ≡ length a.firsts.now = length-zip a.firsts.now a.flags.now ∙ omega (arith, c.requires) in
    any_from_yields_List test c.any.new.self _ _ c.any.ensures.ran (YieldsList-from_zip (YieldsList-from_slice {s = c.zip.result.a} a.firsts.now (search rules)) (YieldsList-from_slice {s = c.zip.result.b} a.flags.now (search rules))) (λ x b q k. search (rules, tests))
    ∙ any_places test (0, false) pairs
    ∙ rw size (ap found (first-same _ (needed_in a.firsts.now a.flags.now a.j) 0 (length a.firsts.now) (λ x l h. ap test (get_or-zip a.firsts.now a.flags.now x (0, false) (omega (arith, h)) (omega (arith, h, c.requires))))))
