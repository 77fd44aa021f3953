use Rattle.selection.proofs.Products.{over-same, over-absorb}
use Rattle.selection.proofs.covering.Covering.grown_over.Goals as goal

pub returns-then-self-k : goal.returns-then-self-k
returns-then-self-k c = over-same c.args.self.now.context.now c.requires

pub returns-then-lies_inside : goal.returns-then-lies_inside
returns-then-lies_inside c = over-same c.args.self.now.context.now c.requires

pub returns : goal.returns
returns c = over-absorb c.args.self.now.context.now c.args.c c.cube_in-d.result c.absorbed.ensures
