use mathlib.Core.Path.{refl}
use mathlib.Core.List.{◌++◌}
use Prim.Native.Nat.{◌+◌, ◌-◌, ◌≤◌}
use native.Mathlib.Omega.{arith}
use lib.ListN.{length}
use borrow.Rule.Slice.PartMut.{put_mid}
use Rattle.hazard.specs.Shown.{numbers}
use Rattle.hazard.specs.Verdict.{products}
use Rattle.kinds.specs.Codes.{kind_is}
use Rattle.writing.specs.Put.{Put}
use Rattle.writing.proofs.Putting.{put_then}
use Rattle.witness.specs.Shows.{phase_in, run_in}
use Rattle.witness.proofs.Phases.{numbers-length, phase_lengths, put_rest, run_written}
use Rattle.witness.proofs.run.write_run.Goals as goal
use Rattle.witness.proofs.run.write_run.Goals.{Start, After-write_phase}

-- There is room for the three phases.
room : (c : Start) → let a = c.args in
    let net = products a.network.n.count a.network.bytes.now in
    length (numbers (phase_in a.p net 0)) + (length (numbers (phase_in a.p net 1)) + length (numbers (phase_in a.p net 2))) ≤ length a.wires.now
room c =
    let a = c.args in
    let net = products a.network.n.count a.network.bytes.now in
    omega (arith, c.requires, numbers-length (run_in a.p net), phase_lengths (kind_is a.p.kind) a.p.product a.p.ends.start a.p.ends.end net)

pub write_phase-first-requires : goal.write_phase-first-requires
write_phase-first-requires c = omega (arith, room (goal.at.write_phase-first-requires c).Start)

pub write_phase-requires : goal.write_phase-requires
write_phase-requires c = put_rest c.write_phase-first.ensures (omega (arith, room (goal.at.write_phase-requires c).Start, c.write_phase-first.ensures.counted))

-- Two of them.
two : (c : After-write_phase) → let a = c.args in
    let net = products a.network.n.count a.network.bytes.now in
    let mid = c.write_phase-first.new.wires in
    let x = c.write_phase-first.result in
    Put a.wires.now (numbers (phase_in a.p net 0) ++ numbers (phase_in a.p net 1)) (put_mid x (length mid - x) mid c.write_phase.new.wires) (x + c.write_phase.result)
two c = put_then c.write_phase-first.ensures c.write_phase.ensures

pub write_phase-requires-2 : goal.write_phase-requires-2
write_phase-requires-2 c =
    put_rest (two (goal.at.write_phase-requires-2 c).After-write_phase)
    (omega (arith, room (goal.at.write_phase-requires-2 c).Start, c.write_phase-first.ensures.counted, c.write_phase.ensures.counted))

pub returns : goal.returns
returns c =
    let a = c.args in
    run_written (kind_is a.p.kind) a.p.product a.p.ends.start a.p.ends.end (products a.network.n.count a.network.bytes.now) c.write_phase-first.result c.write_phase.result (two (goal.at.returns c).After-write_phase) c.write_phase-2.ensures refl
