use Prim.Native.Nat.{◌*◌, ◌≤◌}
use native.Mathlib.Nat.{sub-zero}
use native.Mathlib.Omega.{arith}
use lib.ListN.{length}
use Rattle.cube.proofs.Word.{taken-clean}
use Rattle.context.specs.Context.{table_in}
use Rattle.checks.proofs.HandedOn.{checked-few}
use Rattle.minimiser.proofs.Answering.{stored-clean, answered_for, promised}
use Rattle.minimiser.proofs.minimise.within_room.Goals as goal

pub returns-then-checked-gt64 : goal.returns-then-checked-gt64
returns-then-checked-gt64 c =
    let k = c.args.checked.now in
    let p = k.problem in
    let l : p.planes.n.count * k.count ≤ length c.args.cover.now = omega arith in
    promised p.planes.n.count (table_in p.planes) p.transitions.list.now c.args.cover.now k.accepted k.count k.sets.count' l c.network_large.ensures

pub network_sized-requires-clause-clean : goal.network_sized-requires-clause-clean
network_sized-requires-clause-clean c =
    let k = c.args.checked.now in
    stored-clean k _ (checked-few k (omega arith)) (rw (sub-zero k.count) (taken-clean k.problem.planes.n.count k.count k.few k.sets.clean))

pub returns : goal.returns
returns c =
    let k = c.args.checked.now in
    let p = k.problem in
    let l : p.planes.n.count * k.count ≤ length c.args.cover.now = omega arith in
    promised p.planes.n.count (table_in p.planes) p.transitions.list.now c.args.cover.now k.accepted k.count k.sets.count' l (answered_for k _ (checked-few k (omega arith)) c.network_sized.ensures)
