use native.Mathlib.Omega.{arith}
use Rattle.cube.specs.PointSet.{in_set}
use Rattle.moves.proofs.Movement.{moving_start, moving_input, moving_more, moving_end}
use Rattle.moves.proofs.further.further_word.Goals as goal

pub loop-i-init : goal.loop-i-init
loop-i-init c =
    let a = c.args in
    rw (c.into_iter-i-iterator.ensures.into_iter_gives, c.of-i-items.ensures) (moving_start a.n.few (in_set a.set.now.words) a.w c.requires.0 c.requires.1)

pub moving-word-requires : goal.moving-word-requires
moving-word-requires c =
    let (ne, is, next, less) = c.in-Some.ensures.steps in
    (c.requires.2, omega (arith, c.args.n.few, moving_input c.loop-i.invariant ne is next))

pub loop-i-preserved : goal.loop-i-preserved
loop-i-preserved c =
    let (ne, is, next, less) = c.in-Some.ensures.steps in
    moving_more c.loop-i.invariant ne is next less c.moving-word.ensures

pub returns : goal.returns
returns c = moving_end c.loop-i.invariant c.in-None.ensures.steps.0
