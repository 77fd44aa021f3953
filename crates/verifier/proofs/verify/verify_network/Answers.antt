use mathlib.Core.Path.{◌≡◌, ap₂, ◌∙◌, subst, subst⁻¹}
use mathlib.Core.List.{List}
use Rattle.std.specs.Prelude.{None}
use Prim.Native.Nat.{ℕ, ◌*◌, ◌≤◌}
use lib.ListN.{length}
use Rattle.hazard.specs.Search.{first_of}
use Rattle.hazard.specs.Cover.{Network}
use Rattle.hazard.specs.Verdict.{products, own_checks, Verdict, fault}
use Rattle.hazard.specs.Pulse.{run_for}
use Rattle.cube.specs.declared.inputs.Inputs.{Inputs}
use Rattle.context.specs.Context.{table_in}
use Rattle.refusal.proofs.Checks.{passed}
use Rattle.conditions.specs.Answer.{verdict_of}
use Rattle.witness.specs.Shows.{Written}
use Rattle.verifier.proofs.Verifying.{network_judged, run_fits, network_shown, fault-named}
use Rattle.verifier.proofs.verify.verify_network.Goals as goal
use Rattle.verifier.proofs.verify.verify_network.Goals.{In_ok-network}

-- The network that was handed on is the network, and its own checks find nothing.
same : (c : In_ok-network) → products c.in_ok-network.network.n.count c.in_ok-network.network.bytes.now ≡ products c.args.checked.now.problem.planes.n.count c.args.network.now
same c = let e = c.in_ok-network.ensures.1 in ap₂ (λ (n : Inputs) (bytes : List ℕ). products n.count bytes) e.0 e.1

taken : (c : In_ok-network) → first_of (own_checks c.args.checked.now.problem.planes.n.count c.args.network.now (length c.args.wires.now)) ≡ None
taken c = passed c.own_checks.ensures.0 c.in_ok-network.was

-- A verdict on the network that was handed on is one on the network.
judged : (c : In_ok-network) → let p = c.args.checked.now.problem in
    let k = c.in_ok-network.network in
    (v : Verdict) → v ≡ fault k.n.count (table_in p.planes) p.transitions.list.now (products k.n.count k.bytes.now) → v ≡ fault p.planes.n.count (table_in p.planes) p.transitions.list.now (products p.planes.n.count c.args.network.now)
judged c v e =
    let p = c.args.checked.now.problem in
    let h = c.in_ok-network.ensures.1 in
    e ∙ ap₂ (λ (n : Inputs) (bytes : List ℕ). fault n.count (table_in p.planes) p.transitions.list.now (products n.count bytes)) h.0 h.1

pub show-wires-requires-clause-named : goal.show-wires-requires-clause-named
show-wires-requires-clause-named c =
    let p = c.args.checked.now.problem in
    let k = c.in_ok-network.network in
    fault-named k.n.count (table_in p.planes) p.transitions.list.now (products k.n.count k.bytes.now) (verdict_of c.judge_network-verdict.result) c.judge_network-verdict.ensures

pub show-wires-requires-clause-room : goal.show-wires-requires-clause-room
show-wires-requires-clause-room c =
    let p = c.args.checked.now.problem in
    let s = (goal.at.show-wires-requires-clause-room c).In_ok-network in
    subst⁻¹ (λ (net : Network). 2 * length (run_for (table_in p.planes) p.transitions.list.now net (verdict_of c.judge_network-verdict.result)) ≤ length c.args.wires.now) (same s)
    (run_fits p.planes.n.count (table_in p.planes) p.transitions.list.now c.args.network.now (length c.args.wires.now) c.args.checked.now.accepted (taken s) (verdict_of c.judge_network-verdict.result))

pub returns : goal.returns
returns c =
    let p = c.args.checked.now.problem in
    let room = length c.args.wires.now in
    let v = verdict_of c.judge_network-verdict.result in
    let s = (goal.at.returns c).In_ok-network in
    let e = judged s v c.judge_network-verdict.ensures in
    let w = subst (λ (net : Network). Written (run_for (table_in p.planes) p.transitions.list.now net v) c.args.wires.now c.show-wires.new.wires c.show-wires.result) (same s) c.show-wires.ensures in
    record {
      verified = network_judged p.planes.n.count (table_in p.planes) p.transitions.list.now c.args.network.now room c.args.checked.now.accepted (taken s) e;
      shown = network_shown p.planes.n.count (table_in p.planes) p.transitions.list.now c.args.network.now room c.args.checked.now.accepted (taken s) e w;
    }
