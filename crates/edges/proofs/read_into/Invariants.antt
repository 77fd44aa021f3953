use Rattle.std.proofs.Common.{◌≤◌, length}
use Rattle.edges.proofs.read_into.Given as goal

abbrev pub invariant-loop : goal.invariant-loop
invariant-loop g l = l.done ≤ length l.room
