use borrow.Author.Rules.{rules}
use Rattle.conditions.proofs.Covering.{covers-is}
use Rattle.cube.specs.Mask.{cube_of}
use Rattle.cube.specs.Entry.{cube_in}
use native.Mathlib.Omega.{arith}
use mathlib.Core.Path.{◌≡◌, ◌∙◌}
use Rattle.conditions.proofs.cover.covers.Goals as goal

pub returns : goal.returns
returns c =
    let w = c.whole_into in
    let k = c.cube_in in
    let m = c.narrow in
    let e : cube_of c.args.n.count k.result ≡ cube_in c.args.n.count c.args.r = rw (k.ensures.0, k.ensures.1) in
    c.has_row.ensures ∙ covers-is c.args.n.count c.args.products.now c.args.columns.now w.new.out m.new.rows k.result c.args.r c.requires.containing e m.auto.rows
    (omega (arith, c.requires.fits.1, w.auto.out)) (λ x l. w.ensures x (omega (arith, w.auto.out))) m.ensures (λ b. search rules)
