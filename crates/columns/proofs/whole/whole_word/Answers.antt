use Prim.Native.Nat.{◌%◌}
use native.Mathlib.Nat.{mod-lt}
use native.Mathlib.Omega.{arith}
use Rattle.cube.proofs.Bits.{one_shifted}
use Rattle.columns.proofs.Ones.{ones-word}
use Rattle.columns.proofs.whole.whole_word.Goals as goal

pub returns-then-b-full : goal.returns-then-b-full
returns-then-b-full c = let a = c.args in ones-word a.count a.b 64 (λ t l h. omega arith) (λ t l h. omega arith)

pub returns : goal.returns
returns c =
    let a = c.args in
    rw (one_shifted 64 (a.count % 64) (mod-lt a.count (omega arith))) (ones-word a.count a.b (a.count % 64) (λ t l h. omega arith) (λ t l h. omega arith))
