use mathlib.Core.Path.{◌≡◌, sym, ap, ◌∙◌}
use native.Mathlib.Omega.{arith}
use lib.ListN.{get_or, length-map}
use Rattle.hazard.specs.Implicant.{lowest_zero}
use Rattle.hazard.specs.Cover.{product_at}
use Rattle.cube.specs.Mask.{cube_of, Stands}
use Rattle.cube.specs.Entry.{cube_in, network_in}
use Rattle.cube.proofs.Word.{stands_in}
use Rattle.context.specs.Context.{off_in}
use Rattle.conditions.specs.Look.{met_in}
use Rattle.conditions.proofs.Judging.{judging_hit, judging_miss}
use Rattle.conditions.proofs.Looks.{product_read}
use Rattle.conditions.proofs.fault.product_fault.Goals as goal
use Rattle.conditions.proofs.fault.product_fault.Goals.{After-cube_in-c, After-lowest_zero}

-- The cube that is looked at is clean, and stands for the product.
looked : (c : After-cube_in-c) → let j = c.loop-j.j in Stands c.args.context.now.n.count c.cube_in-c.result (cube_in c.args.context.now.n.count (get_or c.args.products.now j 0))
looked c = stands_in (c.requires.clean c.loop-j.j) c.cube_in-c.ensures

look_is : (c : After-cube_in-c) → let j = c.loop-j.j in cube_of c.args.context.now.n.count c.cube_in-c.result ≡ product_at (network_in c.args.context.now.n.count c.args.products.now) j
look_is c = product_read c.args.context.now.n.count c.args.products.now c.loop-j.j (omega arith) (looked c)

zero_is : (c : After-lowest_zero) → let a = c.args in cube_of a.context.now.n.count c.cube_in-c.result ≡ product_at (network_in a.context.now.n.count a.products.now) c.loop-j.j → c.lowest_zero.result ≡ lowest_zero a.context.now.n.count (off_in a.context.now) (product_at (network_in a.context.now.n.count a.products.now) c.loop-j.j)
zero_is c e =
    c.lowest_zero.ensures ∙ ap (lowest_zero c.args.context.now.n.count (off_in c.args.context.now)) e

pub returns-in-Some : goal.returns-in-Some
returns-in-Some c =
    let a = c.args in
    judging_hit c.loop-j.invariant (omega (arith, length-map a.products.now (cube_in a.context.now.n.count))) (sym (zero_is (goal.at.returns-in-Some c).After-lowest_zero (look_is (goal.at.returns-in-Some c).After-cube_in-c)) ∙ c.in-Some.is)

pub loop-j-preserved : goal.loop-j-preserved
loop-j-preserved c =
    let a = c.args in
    judging_miss c.loop-j.invariant (omega (arith, length-map a.products.now (cube_in a.context.now.n.count))) (sym (zero_is (goal.at.loop-j-preserved c).After-lowest_zero (look_is (goal.at.loop-j-preserved c).After-cube_in-c)) ∙ c.in_default.is)
    (ap (met_in a.context.now) (look_is (goal.at.loop-j-preserved c).After-cube_in-c)) c.met_by-met.ensures
