use mathlib.Core.Path.{subst}
use lib.ListN.{get_or}
use Rattle.hazard.specs.Cube.{Cube}
use Rattle.cube.specs.Entry.{cube_in}
use Rattle.cube.proofs.Word.{stands_in}
use Rattle.cube.proofs.Digits.{masks_digits}
use Rattle.expand.specs.Answer.{Grows}
use Rattle.selection.proofs.Products.{stage_legal, stage_prime}
use Rattle.selection.proofs.covering.Covering.product_for.Goals as goal
use Rattle.selection.proofs.covering.Covering.product_for.Goals.{After-grow-grown}

-- The growth of the required cube.
grows : (c : After-grow-grown)
    → let a = c.args in Grows a.self.now.context.now (cube_in a.self.now.context.now.n.count (get_or a.self.now.required.now a.i 0)) c.grow-grown.result
grows c =
    let w = get_or c.args.self.now.required.now c.args.i 0 in
    subst (λ (q : Cube). Grows c.args.self.now.context.now q c.grow-grown.result) (stands_in {w = w} (c.args.self.now.clean c.args.i) c.cube_in-cube.ensures).is c.grow-grown.ensures

pub widened-requires-clause-dhf : goal.widened-requires-clause-dhf
widened-requires-clause-dhf c =
    let t = stage_legal c.args.self.now.context.now (masks_digits c.args.self.now.context.now.n.count _ _) (grows (goal.at.widened-requires-clause-dhf c).After-grow-grown) c.in-Legal.is in
    (t.dhf, t.fits)

pub returns : goal.returns
returns c =
    let a = c.args in
    let t = stage_legal a.self.now.context.now (masks_digits a.self.now.context.now.n.count _ _) (grows (goal.at.returns c).After-grow-grown) c.in-Legal.is in
    stage_prime a.self.now.context.now t c.widened.ensures
