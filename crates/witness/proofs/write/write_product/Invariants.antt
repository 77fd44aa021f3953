use Rattle.kinds.specs.Codes.{kind_is}
use Rattle.witness.proofs.Phases.{InputsLeft}
use Rattle.witness.proofs.write.write_product.Given as goal

abbrev pub invariant-loop-i : goal.invariant-loop-i
invariant-loop-i l = InputsLeft (kind_is l.p.kind) l.p.product l.p.ends.start l.p.ends.end l.q l.m l.digits l.initial.wires l.wires l.at l.i
