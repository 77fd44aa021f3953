use native.Mathlib.Omega.{arith}
use Rattle.cube.proofs.Scan.{get_d_any}
use Rattle.kinds.specs.Codes.{kind_is}
use Rattle.witness.proofs.Phases.{input-room, input-turn}
use Rattle.witness.proofs.write.write_product.Goals as goal

pub write_wire-at-requires : goal.write_wire-at-requires
write_wire-at-requires c =
    let a = c.args in
    let l = c.loop-i in
    input-room (kind_is a.p.kind) a.p.product a.p.ends.start a.p.ends.end a.q a.m a.digits.now a.wires.now (omega arith) (get_d_any a.digits.now l.i 0 2 (omega arith)) c.moves_in.ensures l.invariant c.requires.1

pub loop-i-preserved : goal.loop-i-preserved
loop-i-preserved c =
    let a = c.args in
    let l = c.loop-i in
    input-turn (kind_is a.p.kind) a.p.product a.p.ends.start a.p.ends.end a.q a.m a.digits.now a.wires.now (omega arith) (get_d_any a.digits.now l.i 0 2 (omega arith)) c.moves_in.ensures l.invariant c.write_wire-at.ensures
