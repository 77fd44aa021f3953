use native.Mathlib.Omega.{arith}
use lib.Bits.{or_lt}
use lib.Pow.{pow_mono}
use Rattle.cube.proofs.Following.{next_is}
use Rattle.cube.proofs.point.next.Goals as goal

pub overflow_add-y : goal.overflow_add-y
overflow_add-y c =
    let a = c.args in
    omega (arith, or_lt a.n.count a.x a.c.care c.requires.1 c.requires.0.small, pow_mono {j = 10} a.n.few)

pub returns : goal.returns
returns c =
    let a = c.args in
    next_is a.n.count a.c.care a.c.value a.x c.requires.0.small c.requires.0.clean c.requires.1 c.requires.2
