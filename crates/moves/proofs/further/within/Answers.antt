use mathlib.Core.Path.{◌≡◌}
use native.Mathlib.Omega.{arith}
use Rattle.moves.specs.Further.{Side}
use Rattle.moves.proofs.FurtherWord.{by_is, by_few, within-zero, within-one}
use Rattle.moves.proofs.further.within.Goals as goal

pub overflow_shr-result : goal.overflow_shr-result
overflow_shr-result c = by_few c.args.word c.args.i c.requires.0

pub returns-then-from-eq0 : goal.returns-then-from-eq0
returns-then-from-eq0 c =
    let a = c.args in
    let e : a.from ≡ 0 = omega (arith, c.if-from-eq0.true) in
    let d : Side a.i 0 c.side-sided.result = rw e at c.side-sided.ensures in
    rw (by_is a.word a.i c.requires.0, e) (within-zero a.word a.i c.requires.0 d)

pub overflow_shl-result : goal.overflow_shl-result
overflow_shl-result c = by_few c.args.word c.args.i c.requires.0

pub returns : goal.returns
returns c =
    let a = c.args in
    let e : a.from ≡ 1 = omega (arith, c.requires.1) in
    let d : Side a.i 1 c.side-sided.result = rw e at c.side-sided.ensures in
    rw (by_is a.word a.i c.requires.0, e) (within-one a.word a.i c.requires.0 d)
