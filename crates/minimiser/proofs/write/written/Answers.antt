use mathlib.Core.Path.{subst}
use Rattle.selection.specs.Select.{Selects}
use Rattle.minimiser.proofs.Writing.{answered_written}
use Rattle.minimiser.proofs.write.written.Goals as goal
use Rattle.minimiser.proofs.write.written.Goals.{In_ok-start}

pub returns : goal.returns
returns c off vs rs h =
    let w = c.write_sorted in
    answered_written c.args.n.count off vs rs w.new.words (subst (Selects c.args.n.count off vs rs c.args.products.now) c.in_ok-start.was h) w.ensures.0 w.ensures.1
