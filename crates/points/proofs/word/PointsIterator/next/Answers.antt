use Rattle.std.proofs.Common.{rules, ap}
use mathlib.Core.List.{◌∷◌}
use mathlib.Core.Path.{◌≡◌}
use Prim.Native.Nat.{◌+◌, ◌*◌}
use lib.ListN.{length}
use Rattle.points.specs.PointWord.{points_in, points_left}
use Rattle.points.proofs.Members.{points_none, points_more}
use Rattle.points.proofs.word.PointsIterator.next.Goals as goal
use Rattle.points.proofs.word.PointsIterator.next.Goals.{In_ok-bit}

-- The lowest point comes first.
lowest_first : (c : In_ok-bit) → let s = c.args.self.now in points_left s ≡ (64 * s.word + c.in_ok-bit.bit) ∷ points_in s.word c.next.new.self.left
lowest_first c =
    let s = c.args.self.now in
    let e = c.in_ok-bit.ensures.steps in
    rw (e.2, e.1) (points_more s.word s.bits.left s.small e.0)

pub returns-clause-steps : goal.returns-clause-steps
returns-clause-steps c = lowest_first (goal.at.returns-clause-steps c).In_ok-bit

pub returns-in_err-bit-clause-steps : goal.returns-in_err-bit-clause-steps
returns-in_err-bit-clause-steps c =
    let none = points_none c.args.self.now.word in
    let e = c.in_err-bit.ensures.steps in
    rw c.from_residual.ensures (rw e.0 none, rw e.1 none)

pub returns-clause-goes : goal.returns-clause-goes
returns-clause-goes c = let e = ap length (lowest_first (goal.at.returns-clause-goes c).In_ok-bit) in search rules
