use mathlib.Core.Path.{◌≡◌, refl, ◌∙◌}
use Prim.Native.Nat.{◌-◌}
use native.Mathlib.Omega.{arith}
use lib.ListN.{length, get_or}
use Rattle.cube.specs.Mask.{cube_of}
use Rattle.cube.specs.Entry.{cube_in}
use Rattle.flags.proofs.Flags.{flag_is, product_test}
use Rattle.choice.proofs.Lending.{lent_start, lent_wide, lent_set, lent_next}
use Rattle.choice.proofs.Lowering.{noted-low}
use Rattle.choice.proofs.Keeping.{keeping_start, keeping_turn, keeping_skip, keeping_keep, keeping_end}
use Rattle.choice.proofs.keep.irredundant_from.Goals as goal
use Rattle.choice.proofs.keep.irredundant_from.Goals.{At-loop-j}

pub lowest_into-requires : goal.lowest_into-requires
lowest_into-requires c = let h = c.requires.0 in (omega (arith, h.whole, h.many), refl, noted-low h)

pub loop-j-init : goal.loop-j-init
loop-j-init c =
    let w = c.whole_into in
    (keeping_start c.requires.0, lent_start (length c.args.required.now) _ w.new.out c.requires.0.many refl refl w.auto.out w.ensures)

pub loop-j-preserved-then-needed : goal.loop-j-preserved-then-needed
loop-j-preserved-then-needed c =
    let l = c.loop-j in
    let k = c.cube_in in
    let z = c.flag_product in
    let p = get_or l.products (l.j - 1) 0 in
    let e : cube_of c.args.n.count k.result ≡ cube_in c.args.n.count p = rw (k.ensures.0, k.ensures.1) in (
      keeping_keep c.requires.0 (keeping_turn c.requires.0 l.invariant.0 (omega (arith, c.loop-j-test.true))) c.needed.ensures c.if-needed.true
          (λ i a. flag_is z.ensures (lent_set l.invariant.1) (lent_wide l.invariant.1) i a ∙ rw (product_test c.requires.1 k.result p e i a)),
      lent_next l.invariant.1 z.ensures z.auto.uncovered z.auto.taken z.auto.flags,
    )

pub loop-j-preserved : goal.loop-j-preserved
loop-j-preserved c =
    let l = c.loop-j in
    (keeping_skip c.requires.0 (keeping_turn c.requires.0 l.invariant.0 (omega arith)) c.needed.ensures c.if-needed.false, l.invariant.1)

pub returns : goal.returns
returns c =
    let l = c.loop-j in
    let e : l.j ≡ 0 = omega arith in
    keeping_end c.requires.0 (rw e at l.invariant.0)
