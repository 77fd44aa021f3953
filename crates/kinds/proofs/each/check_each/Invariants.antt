use Prim.Native.Nat.{ℕ, ◌<◌}
use Rattle.std.specs.Prelude.{Ok}
use Rattle.kinds.specs.Each.{transition_in}
use Rattle.kinds.proofs.each.check_each.Given as goal

abbrev pub invariant-loop-t : goal.invariant-loop-t
invariant-loop-t g l = (s : ℕ) → s < l.t → goal.F-post g l.check s (transition_in l.list s) (Ok tt)
