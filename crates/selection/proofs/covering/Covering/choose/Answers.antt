use mathlib.Core.Path.{◌≡◌, refl, sym, subst}
use lib.Dec.{T}
use lib.ListN.{length, get_or, length-set}
use Rattle.hazard.specs.Cube.{inside}
use Rattle.hazard.proofs.Test.{so}
use Rattle.cube.specs.Mask.{cube_of}
use Rattle.cube.specs.Entry.{cube_in}
use Rattle.context.specs.Context.{off_in, privileged_of}
use Rattle.flags.proofs.Flags.{product_test}
use Rattle.choice.proofs.Choosing.{choosing_start, choosing_skip, choosing_add}
use Rattle.choice.proofs.Lending.{lent_start, lent_wide, lent_set, lent_next, lent_took}
use Rattle.selection.specs.Product.{MadeFor}
use Rattle.selection.specs.Choose.{PrimeWord}
use Rattle.selection.proofs.Products.{product-word, product-cube}
use Rattle.selection.proofs.Choices.{turn-start, turn_next}
use borrow.Author.Rules.{rules}
use Rattle.selection.proofs.covering.Covering.choose.Goals as goal
use Rattle.selection.proofs.covering.Covering.choose.Goals.{After-pack}

pub loop-i-init : goal.loop-i-init
loop-i-init c =
    let w = c.whole_into in
    (turn-start c.args.self.now.context.now (choosing_start _ _ _ _ _ c.requires.ready.0 c.requires.ready.1 c.requires.ready.2), refl, lent_start (length c.args.self.now.required.now) _ w.new.out c.requires.ready.0 refl refl w.auto.out w.ensures)

-- The word that is chosen holds a dhf-prime around the required cube.
word-is : (c : After-pack)
    → let a = c.args in
    let v = get_or a.self.now.required.now c.loop-i.i 0 in
    PrimeWord a.self.now.context.now.n.count (off_in a.self.now.context.now) (privileged_of a.self.now.context.now) c.pack.result × T (inside (cube_in a.self.now.context.now.n.count v) (cube_in a.self.now.context.now.n.count c.pack.result)) × (cube_in a.self.now.context.now.n.count c.pack.result ≡ cube_of a.self.now.context.now.n.count c.in_ok-c.c)
word-is c =
    let a = c.args in
    let v = get_or a.self.now.required.now c.loop-i.i 0 in
    let h = subst (MadeFor a.self.now.context.now v) c.in_ok-c.was c.product_for.ensures in
    let w = product-word a.self.now.context.now v h c.pack.ensures in
    (w.0, w.1, product-cube a.self.now.context.now h c.pack.ensures)

pub loop-i-preserved : goal.loop-i-preserved
loop-i-preserved c =
    let l = c.loop-i in
    let t = c.loop-i-test.true in
    let w = word-is (goal.at.loop-i-preserved c).After-pack in
    let p = c.pack.result in
    let d = c.in_ok-c.c in
    let z = c.flag_product in
    let h = c.note in
    let took = lent_took l.invariant.2 z.ensures z.auto.uncovered z.auto.taken in (
      turn_next c.args.self.now.context.now l.invariant.0 t
          (choosing_add l.invariant.0.choosing t p w.0 w.1 z.ensures (lent_set l.invariant.2) (lent_wide l.invariant.2) (product_test c.requires.inside.0 d p (sym w.2)) (rw took at h.ensures) h.auto.firsts),
      simp length-set l.invariant.1,
      lent_next l.invariant.2 z.ensures z.auto.uncovered z.auto.taken z.auto.flags,
    )

pub loop-i-preserved-then-flags-i : goal.loop-i-preserved-then-flags-i
loop-i-preserved-then-flags-i c =
    let a = c.args in
    let l = c.loop-i in
    let t = c.loop-i-test.true in
    (turn_next a.self.now.context.now l.invariant.0 t (choosing_skip l.invariant.0.choosing t (so (search rules))), l.invariant.1, l.invariant.2)
