use mathlib.Core.Path.{◌≡◌, refl, sym, ap, subst, ◌∙◌}
use mathlib.Core.List.{List}
use Prim.Native.Nat.{◌*◌, ◌≤◌}
use lib.ListN.{length}
use Rattle.std.specs.Prelude.{Option}
use Rattle.hazard.specs.Run.{Wire}
use Rattle.hazard.specs.Verdict.{products}
use Rattle.hazard.specs.Pulse.{run_for}
use Rattle.context.specs.Context.{table_in}
use Rattle.kinds.proofs.Coded.{few_points}
use Rattle.conditions.specs.Answer.{verdict_of}
use Rattle.witness.specs.Shows.{witness_of, Written}
use Rattle.witness.specs.declared.pulse.Pulse.{Pulse}
use Rattle.witness.proofs.run.show.Goals as goal
use Rattle.witness.proofs.run.show.Goals.{After-witness_for}

pub witness_for-requires : goal.witness_for-requires
witness_for-requires c = let t = c.args.problem.now.transitions in (λ i. few_points t.n (t.listed.within i), c.requires.named)

-- The run that was found is the definition's.
found : (c : After-witness_for) → let p = c.args.problem.now in let k = c.args.network in
    witness_of c.witness_for.result (products k.n.count k.bytes.now) ≡ run_for (table_in p.planes) p.transitions.list.now (products k.n.count k.bytes.now) (verdict_of c.args.v)
found c =
    let p = c.args.problem.now in
    let k = c.args.network in
    c.witness_for.ensures p.planes p.transitions.n.count (record { ones' = refl; listed = p.transitions.listed; ready = p.ready }) (products k.n.count k.bytes.now)

pub write_run-requires : goal.write_run-requires
write_run-requires c =
    let k = c.args.network in
    let e = sym (ap (λ (w : Option Pulse). witness_of w (products k.n.count k.bytes.now)) c.in-Some.is) ∙ found (goal.at.write_run-requires c).After-witness_for in
    subst (λ (ws : List Wire). 2 * length ws ≤ length c.args.wires.now) (sym e) c.requires.room

pub returns-in-Some : goal.returns-in-Some
returns-in-Some c =
    let k = c.args.network in
    let e = sym (ap (λ (w : Option Pulse). witness_of w (products k.n.count k.bytes.now)) c.in-Some.is) ∙ found (goal.at.returns-in-Some c).After-witness_for in
    subst (λ (ws : List Wire). Written ws c.args.wires.now c.write_run.new.wires c.write_run.result) e c.write_run.ensures

pub returns-in-None : goal.returns-in-None
returns-in-None c =
    let k = c.args.network in
    let e = sym (ap (λ (w : Option Pulse). witness_of w (products k.n.count k.bytes.now)) c.in-None.is) ∙ found (goal.at.returns-in-None c).After-witness_for in
    subst (λ (ws : List Wire). Written ws c.args.wires.now c.args.wires.now 0) e (record { counted = refl; buffer = refl })
