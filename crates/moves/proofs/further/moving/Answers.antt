use mathlib.Core.Path.{◌≡◌}
use Prim.Native.Nat.{◌+◌, ◌-◌}
use native.Mathlib.Omega.{arith}
use Rattle.moves.proofs.FurtherWord.{within_word}
use Rattle.moves.proofs.further.moving.Goals as goal

pub returns-then-i-lt6 : goal.returns-then-i-lt6
returns-then-i-lt6 c =
    let a = c.args in
    rw c.bit_of-from.ensures at (within_word a.set.now.words a.w c.bit_of-from.result c.if-i-lt6.true c.within.ensures)
