use mathlib.Core.Path.{◌≡◌, ap, ◌∙◌}
use Prim.Native.Nat.{ℕ, ◌+◌, min}
use native.Mathlib.Omega.{arith}
use Rattle.blocks.specs.Blocks.{word_at}
use Rattle.rows.proofs.Narrowing.{Narrowing, narrowing_step, partner_low}
use Rattle.rows.proofs.narrow.narrow.Goals as goal
use Rattle.rows.proofs.narrow.narrow.Goals.{After-narrow_by}

-- Input i and its partner are taken.
taken : (c : After-narrow_by) → Narrowing c.args.columns.now c.args.c c.args.rows.now c.narrow_by.new.rows (c.min-j.result + 1)
taken c =
    let l = c.loop-i in
    let b = c.narrow_by in
    let e : min l.i c.args.n.count ≡ l.i = omega (arith, c.loop-i-test.true) in
    narrowing_step (rw e at l.invariant) c.requires b.new.rows b.auto.rows c.args.n.count c.run.result.now c.run-in-loop-i.result.now c.loop-i-test.true c.min-j.ensures
    (λ k h. c.run.ensures.1 k h ∙ ap (λ (d : ℕ). word_at c.args.columns.now l.i d k) c.digit_at.ensures.0)
    (λ k h. c.run-in-loop-i.ensures.1 k h ∙ ap (λ (d : ℕ). word_at c.args.columns.now c.min-j.result d k) c.digit_at-in-loop-i.ensures.0)
    b.ensures

pub loop-i-preserved : goal.loop-i-preserved
loop-i-preserved c =
    rw (← (partner_low c.loop-i.i c.args.n.count c.loop-i-test.true c.min-j.ensures).2) (taken (goal.at.loop-i-preserved c).After-narrow_by)

-- The last one or two inputs.
pub returns-2 : goal.returns-2
returns-2 c =
    let e : c.min-j.result + 1 ≡ c.args.n.count = (partner_low c.loop-i.i c.args.n.count c.loop-i-test.true c.min-j.ensures).2 ∙ omega arith in
    rw e at (taken (goal.at.returns-2 c).After-narrow_by).is
