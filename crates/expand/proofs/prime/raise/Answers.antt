use mathlib.Core.Path.{sym, ◌∙◌}
use lib.ListN.{set}
use Rattle.cube.specs.Mask.{cube_of}
use Rattle.context.specs.Context.{off_in, privileged_of}
use Rattle.expand.proofs.Growing.{zero-added}
use Rattle.expand.proofs.Outcome.{kept, stays, none_found}
use Rattle.expand.proofs.Raising.{absent_digit, literal_digit}
use Rattle.expand.proofs.prime.raise.Goals as goal

pub returns-then-bit_of-eq0 : goal.returns-then-bit_of-eq0
returns-then-bit_of-eq0 c =
    record { fits = c.requires.clean.0; is = rw (absent_digit c.args.context.now.n.count c.args.c.care c.args.c.value c.args.i c.requires.clean.1 (sym c.bit_of.ensures ∙ c.if-bit_of-eq0.true)) }

pub returns-then-is_some : goal.returns-then-is_some
returns-then-is_some c =
    let k = c.args.context.now in
    let p = cube_of k.n.count c.args.c in
    let read = zero-added k.n.count (off_in k) p (set p c.args.i 2) c.requires.zeros c.lowest_raised.ensures in
    record {
      fits = c.requires.clean.0;
      is = rw (literal_digit k.n.count c.args.c.care c.args.c.value c.args.i c.requires.clean.1 (λ e. c.if-bit_of-eq0.false (c.bit_of.ensures ∙ e))) (stays k.n.count (off_in k) (privileged_of k) p (set p c.args.i 2) read c.if-is_some.ensures);
    }

pub grow_on-requires-clause-zeros : goal.grow_on-requires-clause-zeros
grow_on-requires-clause-zeros c =
    let k = c.args.context.now in
    let p = cube_of k.n.count c.args.c in
    let read = zero-added k.n.count (off_in k) p (set p c.args.i 2) c.requires.zeros c.lowest_raised.ensures in
    rw (c.raised.ensures k.n.count c.requires.clean.0.small).is (sym read ∙ none_found c.if-is_some.ensures)

pub returns : goal.returns
returns c =
    let g = c.grow_on.ensures in
    rw (literal_digit c.args.context.now.n.count c.args.c.care c.args.c.value c.args.i c.requires.clean.1 (λ e. c.if-bit_of-eq0.false (c.bit_of.ensures ∙ e)))
    (kept (cube_of c.args.context.now.n.count c.args.c) g (c.raised.ensures c.args.context.now.n.count c.requires.clean.0.small).is (c.cube_or.ensures c.args.context.now.n.count c.requires.clean.0 g.clean))
