use mathlib.Core.Path.{◌≡◌, refl, ◌∙◌}
use Prim.Native.Nat.{◌+◌, ◌*◌}
use native.Mathlib.Omega.{arith}
use lib.Bits.{bit_and, and_mask}
use Rattle.cube.proofs.Digits.{stands_cons}
use Rattle.cube.proofs.bytes.prepended.Goals as goal

pub returns-then-d-eq2 : goal.returns-then-d-eq2
returns-then-d-eq2 c m ds s =
    let a = c.args in
    rw c.if-d-eq2.true
    (stands_cons (a.c.care * 2) (a.c.value * 2) 0 0 s (omega arith) (omega arith) (omega arith) (omega arith) refl)

pub returns : goal.returns
returns c m ds s =
    let a = c.args in
    let e : bit_and a.d 1 ≡ a.d = and_mask a.d 1 ∙ omega arith in
    stands_cons (a.c.care * 2 + 1) (a.c.value * 2 + a.d) 1 a.d s (omega arith) (omega arith) (omega arith) (omega arith) e
