use Rattle.std.proofs.Common.{rules}
use Rattle.points.proofs.Without.{left-without}
use Rattle.points.proofs.set.PointSet.without.Goals as goal

pub returns : goal.returns
returns c =
    let v = c.loop-w.invariant in
    left-without c.args.other.now.words v.fit v.swept (search rules)
