use Prim.Native.Nat.{◌-◌, min}
use Rattle.rows.proofs.Narrowing.{Narrowing}
use Rattle.rows.proofs.narrow.narrow.Given as goal

abbrev pub invariant-loop-i : goal.invariant-loop-i
invariant-loop-i l = Narrowing l.columns l.c l.initial.rows l.rows (min l.i l.n.count)

abbrev pub decreases-loop-i : goal.decreases-loop-i
decreases-loop-i l = l.n.count - l.i
