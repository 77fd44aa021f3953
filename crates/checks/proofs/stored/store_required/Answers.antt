use mathlib.Core.Path.{subst}
use mathlib.Core.List.{List, ◌++◌}
use Rattle.hazard.specs.Sets.{Required, of_transitions}
use Rattle.cube.specs.Entry.{required_in}
use Rattle.context.specs.Context.{table_in}
use Rattle.sets.specs.Held.{Held}
use Rattle.sets.proofs.Leaving.{left_points}
use Rattle.checks.proofs.stored.store_required.Goals as goal

pub returns : goal.returns
returns c =
    let p = c.args.problem.now in
    let n = p.planes.n.count in
    let f = table_in p.planes in
    let ts = p.transitions.list.now in
    let q = c.required_into in
    subst (λ (l : List Required). Held n (required_in n) c.args.out.now q.new.out q.result (of_transitions n f ts ++ l)) (left_points n f ts c.unvisited-singles.result.words c.unvisited-singles.ensures) q.ensures
