use mathlib.Core.Path.{◌≡◌}
use native.Mathlib.Omega.{arith}
use Rattle.std.proofs.Common.{rules}
use Rattle.legality.proofs.Illegal.{column_step, illegal_are}
use Rattle.legality.proofs.meeting.illegal_rows.Goals as goal

pub loop-i-preserved : goal.loop-i-preserved
loop-i-preserved c =
    let e = c.digit_at.ensures.0 in
    let f = c.run_of-at.ensures in
    (column_step (search rules) e f c.loop-i.invariant.0, column_step (search rules) e f c.loop-i.invariant.1)

pub returns : goal.returns
returns c =
    let l = c.loop-i in
    let e : l.i ≡ c.args.context.now.n.count = omega arith in
    illegal_are c.args.context.now c.args.c (rw e at l.invariant.0) (rw e at l.invariant.1)
