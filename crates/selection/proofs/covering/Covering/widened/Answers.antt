use native.Mathlib.Omega.{arith}
use Rattle.selection.proofs.Products.{stage_start, stage_step, stage_end}
use Rattle.selection.proofs.covering.Covering.widened.Goals as goal

pub loop-row-init : goal.loop-row-init
loop-row-init c = (stage_start c.args.self.now.context.now c.requires.dhf.1 c.requires.dhf.0, omega (arith, c.requires.fits.0, c.requires.fits.1))

pub loop-row-preserved : goal.loop-row-preserved
loop-row-preserved c = (stage_step c.args.self.now.context.now c.loop-row.invariant.0 c.grown_over-p.ensures, c.loop-row.invariant.1)

pub returns : goal.returns
returns c = stage_end c.args.self.now.context.now c.loop-row.invariant.0 c.expanded.ensures
