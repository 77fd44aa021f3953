use native.Mathlib.Omega.{arith}
use Rattle.cube.proofs.Digits.{masks_digits}
use Rattle.context.proofs.Wide.{context_wide}
use Rattle.expand.proofs.Raising.{raising_step}
use Rattle.expand.proofs.prime.expanded.Goals as goal

pub loop-i-preserved : goal.loop-i-preserved
loop-i-preserved c =
    let k = c.args.context.now in
    let e = c.raise-p.ensures in
    (e.fits, rw e.is (raising_step c.loop-i.invariant.1 (context_wide k) (masks_digits k.n.count _ _) (omega arith)))
