use lib.Bits.{bit_and}
use lib.ListN.{get_or}
use Rattle.cube.proofs.Sweep.{Sweep}
use Rattle.rows.proofs.narrow.narrow_by.Given as goal

abbrev pub invariant-loop-b : goal.invariant-loop-b
invariant-loop-b l = Sweep (λ k v. bit_and v (bit_and (get_or l.first k 0) (get_or l.second k 0))) 0 l.initial.rows l.rows l.b
