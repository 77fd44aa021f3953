use mathlib.Core.Path.{◌≡◌, sym, ap, subst, ◌∙◌}
use mathlib.Core.List.{List}
use Prim.Native.Nat.{ℕ}
use Rattle.std.proofs.lemmas.Result.{err_from_is_err_and}
use Rattle.hazard.specs.Search.{first_of}
use Rattle.hazard.specs.Refusal.{input_checks, points_checks}
use Rattle.cube.specs.declared.inputs.Inputs.{Inputs}
use Rattle.context.specs.declared.planes.Planes.{Planes}
use Rattle.context.specs.Context.{table_in}
use Rattle.refusal.specs.Answer.{refused_by}
use Rattle.refusal.proofs.Checks.{passed, refused}
use Rattle.checks.proofs.Checks.{formed_table, said_of, accepted_as}
use Rattle.checks.proofs.check.check.Goals as goal
use Rattle.checks.proofs.check.check.Goals.{After-points_checks}

-- The planes hold the table of n inputs.
same : (c : After-points_checks) → c.of.result.n.count ≡ c.args.n
same c = ap (λ (m : Inputs). m.count) c.of.ensures.0 ∙ c.in_ok-listed.ensures.taken.0

table : (c : After-points_checks) → table_in c.of.result ≡ c.args.table.now
table c =
    let a = c.args in
    formed_table a.n a.table.now a.transitions.now c.form_checks.ensures.refused c.in_ok-listed.was c.of.result (same c) c.of.ensures.1 c.of.ensures.2

-- Checks 6 and 7 say what is left to be said.
said : (c : After-points_checks) → refused_by c.points_checks.result ≡ first_of (input_checks c.args.n c.args.table.now c.args.transitions.now)
said c =
    let a = c.args in
    let p = c.of.result in
    said_of a.n a.table.now a.transitions.now c.form_checks.ensures.refused c.in_ok-listed.was p (same c) c.of.ensures.1 c.of.ensures.2 c.points_checks.result
    (subst (λ (l : List ℕ). refused_by c.points_checks.result ≡ first_of (points_checks p.n.count (table_in p) l)) c.in_ok-listed.ensures.taken.1 c.points_checks.ensures.refused)

pub returns-in_err-problem-clause-refused : goal.returns-in_err-problem-clause-refused
returns-in_err-problem-clause-refused c =
    let r = c.from_residual-in_err-problem in
    let e = err_from_is_err_and r.result r.ensures.1 in
    rw (e.1, e.2) (refused (said (goal.at.returns-in_err-problem-clause-refused c).After-points_checks) c.in_err-problem.was)

pub returns-clause-refused : goal.returns-clause-refused
returns-clause-refused c = sym (passed (said (goal.at.returns-clause-refused c).After-points_checks) c.in_ok-problem.was)

pub returns-clause-taken : goal.returns-clause-taken
returns-clause-taken c =
    let g = (goal.at.returns-clause-taken c).After-points_checks in
    let e = c.in_ok-problem.ensures.taken in
    (ap (λ (p : Planes). p.n.count) e.0 ∙ same g, ap table_in e.0 ∙ table g, e.1 ∙ c.in_ok-listed.ensures.taken.1)

pub invariant_of-result-clause-accepted : goal.invariant_of-result-clause-accepted
invariant_of-result-clause-accepted c =
    let g = (goal.at.invariant_of-result-clause-accepted c).After-points_checks in
    let e = c.in_ok-problem.ensures.taken in
    accepted_as (ap (λ (p : Planes). p.n.count) e.0 ∙ same g) (ap table_in e.0 ∙ table g) (e.1 ∙ c.in_ok-listed.ensures.taken.1) (passed (said g) c.in_ok-problem.was)
