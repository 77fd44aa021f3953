use lib.ListN.{length}
use Rattle.problem_text.proofs.Listing.{Listing}
use Rattle.problem_text.proofs.transition.transitions_into.Given as goal

abbrev pub invariant-loop-left : goal.invariant-loop-left
invariant-loop-left l = Listing l.text l.transitions l.k l.left

abbrev pub decreases-loop-left : goal.decreases-loop-left
decreases-loop-left l = length l.left
