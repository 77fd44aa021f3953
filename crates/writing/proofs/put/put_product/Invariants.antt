use Rattle.std.proofs.Common.{map, take}
use Rattle.problem_text.specs.Form.{cell}
use Rattle.writing.specs.Put.{Put}
use Rattle.writing.proofs.put.put_product.Given as goal

-- The characters of the first digits are put.
abbrev pub invariant-loop-i : goal.invariant-loop-i
invariant-loop-i l = Put l.initial.out (map cell (take l.i l.product)) l.out l.i
