use Rattle.std.proofs.Common.{◌≡◌, ◌+◌, ◌*◌}
use Rattle.hazard.specs.Verdict.{cut}
use Rattle.writing.specs.Output.{product_lines}
use Rattle.writing.specs.Put.{Put}
use Rattle.writing.proofs.put.put_products.Given as goal

-- The first lines are put, each as long as a product and its end.
abbrev pub invariant-loop-j : goal.invariant-loop-j
invariant-loop-j l = record { put : Put l.initial.out (product_lines (cut l.n l.j l.products)) l.out l.at; place : l.at ≡ l.j * (l.n + 1) }
