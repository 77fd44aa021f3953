use Rattle.std.proofs.Common.{◌≡◌, ◌≢◌, length, arith, rules, length-set}
use Rattle.problem_text.proofs.Listing.{listing_end, listing_none, listing_far, listing_on}
use Rattle.problem_text.proofs.transition.transitions_into.Goals as goal

pub returns-in_err-a : goal.returns-in_err-a
returns-in_err-a c =
    let some' : length c.loop-left.left.now ≢ 0 = search rules in
    let h = listing_none c.loop-left.invariant some' c.in_err-a.ensures in search (rules, h)

pub bounds-transitions-k-in-loop-left : goal.bounds-transitions-k-in-loop-left
bounds-transitions-k-in-loop-left c =
    let l = c.loop-left in
    let i = c.in_ok-a in
    omega (arith, listing_far l.left.now i.next.now i.ensures, l.invariant.few, length-set l.transitions l.k i.a)

pub loop-left-smaller : goal.loop-left-smaller
loop-left-smaller c = omega (arith, listing_far c.loop-left.left.now c.in_ok-a.next.now c.in_ok-a.ensures)

pub loop-left-preserved : goal.loop-left-preserved
loop-left-preserved c =
    let l = c.loop-left in
    let i = c.in_ok-a in
    listing_on l.invariant i.next.now i.ensures (omega (arith, listing_far l.left.now i.next.now i.ensures, l.invariant.few))

pub returns : goal.returns
returns c =
    let i = c.loop-left.invariant in
    let none : length c.loop-left.left.now ≡ 0 = search rules in
    listing_end i none (omega (arith, i.few))
