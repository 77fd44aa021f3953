use native.Mathlib.Nat.{sub-zero}
use native.Mathlib.Omega.{arith}
use Rattle.cube.proofs.Word.{taken-clean}
use Rattle.checks.proofs.HandedOn.{all-room, all-stored}
use Rattle.minimiser.proofs.Answering.{stored-clean, answered_for}
use Rattle.minimiser.proofs.minimise.network_large.Goals as goal

pub slice_bounds-network_sized-end : goal.slice_bounds-network_sized-end
slice_bounds-network_sized-end c = all-room c.args.checked.now.problem c.store_required-count.ensures (omega arith)

pub network_sized-requires-clause-clean : goal.network_sized-requires-clause-clean
network_sized-requires-clause-clean c =
    let k = c.args.checked.now in
    let q = c.store_required-count in
    let h = all-stored k.problem q.ensures (omega arith) in
    stored-clean k _ h (rw (sub-zero q.result) (taken-clean k.problem.planes.n.count q.result q.new.out q.ensures.clean))

pub returns : goal.returns
returns c =
    let k = c.args.checked.now in
    answered_for k _ (all-stored k.problem c.store_required-count.ensures (omega arith)) c.network_sized.ensures
