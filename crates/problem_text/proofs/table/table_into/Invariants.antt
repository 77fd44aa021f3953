use Rattle.std.proofs.Common.{◌≡◌, take, drop}
use Rattle.problem_text.specs.Read.{table_line}
use Rattle.problem_text.proofs.Tables.{prefixed}
use Rattle.problem_text.proofs.table.table_into.Given as goal

-- The values up to a place stand in the room.
abbrev pub invariant-loop-k : goal.invariant-loop-k
invariant-loop-k l = table_line l.text ≡ prefixed (take l.k l.table) (table_line (drop l.k l.text))
