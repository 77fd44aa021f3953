use mathlib.Core.Path.{ap, ◌∙◌}
use Rattle.hazard.specs.Implicant.{lowest_zero}
use Rattle.cube.specs.PointSet.{in_set}
use Rattle.context.specs.Context.{table_in}
use Rattle.context.proofs.Values.{plane_zeros, plane_ones}
use Rattle.kinds.specs.Codes.{kind_is}
use Rattle.rules.proofs.Faults.{static_is, rise_is, fall_is, kind-is}
use Rattle.rules.proofs.function_hazard.lowest_hazard.Goals as goal

pub returns-in-Low : goal.returns-in-Low
returns-in-Low c =
    let a = c.args in
    let p = a.planes.now in
    c.lowest_in.ensures ∙ ap (lowest_zero p.n.count (in_set p.ones.words)) c.span_of.ensures.is ∙ static_is p (plane_ones p) a.a a.b ∙ kind-is p.n.count (table_in p) a.a a.b (ap kind_is c.in-Low.is)

pub returns-in-Rise : goal.returns-in-Rise
returns-in-Rise c =
    let a = c.args in
    let p = a.planes.now in
    c.lowest_turning.ensures ∙ rise_is p a.a a.b ∙ kind-is p.n.count (table_in p) a.a a.b (ap kind_is c.in-Rise.is)

pub returns-in-Fall : goal.returns-in-Fall
returns-in-Fall c =
    let a = c.args in
    let p = a.planes.now in
    c.lowest_turning-in-Fall.ensures ∙ fall_is p a.a a.b ∙ kind-is p.n.count (table_in p) a.a a.b (ap kind_is c.in-Fall.is)

pub returns-in-High : goal.returns-in-High
returns-in-High c =
    let a = c.args in
    let p = a.planes.now in
    c.lowest_in-in-High.ensures ∙ ap (lowest_zero p.n.count (in_set p.zeros.words)) c.span_of-in-High.ensures.is ∙ static_is p (plane_zeros p) a.a a.b ∙ kind-is p.n.count (table_in p) a.a a.b (ap kind_is c.in-High.is)
