use Prim.Native.Nat.{◌+◌, ◌*◌, ◌<◌}
use native.Mathlib.Omega.{arith}
use lib.ListN.{length}
use borrow.Author.Rules.{rules}
use Rattle.flags.proofs.Placing.{placing_at, placing_step, placing_end}
use Rattle.flags.proofs.put.put_word.Goals as goal
use Rattle.flags.proofs.put.put_word.Goals.{In-Some}
use Rattle.flags.proofs.put.put_word.Given.{Over}

-- The row's place lies among the places.
low : (g : Over) (c : In-Some g) → 64 * c.args.b + c.in-Some.i < length c.loop-i.places
low g c =
    let (ne, is, next, less) = c.in-Some.ensures.steps in
    rw is (placing_at (c.loop-i.invariant c.args.value) ne c.requires.room)

pub offset_bounds-places-b : goal.offset_bounds-places-b
offset_bounds-places-b g c = search (rules, low g (goal.at.offset_bounds-places-b g c).In-Some)

pub bounds-places-b : goal.bounds-places-b
bounds-places-b g c = omega (arith, low g (goal.at.bounds-places-b g c).In-Some)

pub loop-i-preserved : goal.loop-i-preserved
loop-i-preserved g c d =
    let (ne, is, next, less) = c.in-Some.ensures.steps in
    let p = c.loop-i.invariant d in
    rw is (placing_step p ne (placing_at p ne c.requires.room) (rw is at next) less)

pub returns : goal.returns
returns g c d = placing_end (c.loop-i.invariant d) c.in-None.ensures.steps.0
