use Rattle.std.proofs.Common.{◌≤◌, length}
use Rattle.edges.proofs.runs.numbers_into.Given as goal

abbrev pub invariant-loop : goal.invariant-loop
invariant-loop l = l.count ≤ length l.list
