use Rattle.sets.proofs.Leaving.{left-unvisited}
use Rattle.sets.proofs.unvisited.unvisited.Goals as goal

pub returns : goal.returns
returns c =
    let a = c.args in
    left-unvisited a.planes.now a.transitions.n.count a.transitions.list.now c.visited-seen.result.words c.without.result.words c.requires c.visited-seen.ensures c.without.ensures
