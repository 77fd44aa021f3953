use lib.Bits.{bit_and, bit_xor}
use lib.ListN.{get_or}
use Rattle.cube.proofs.Sweep.{Sweep}
use Rattle.rows.proofs.split.remove.Given as goal

abbrev pub invariant-loop-b : goal.invariant-loop-b
invariant-loop-b l = Sweep (λ k v. bit_xor v (bit_and v (get_or l.other k 0))) 0 l.initial.set l.set l.b
