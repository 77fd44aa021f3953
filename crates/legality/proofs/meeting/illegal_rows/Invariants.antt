use lib.ListN.{length}
use Rattle.context.specs.Context.{privileged_words}
use Rattle.legality.proofs.Illegal.{Narrowed}
use Rattle.legality.proofs.meeting.illegal_rows.Given as goal

abbrev pub invariant-loop-i : goal.invariant-loop-i
invariant-loop-i l =
    let rows = length (privileged_words l.context) in
    Narrowed l.context.meets l.c rows l.i l.met × Narrowed l.context.starts l.c rows l.i l.contained
