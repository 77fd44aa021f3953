use Prim.Native.Nat.{◌<◌}
use Rattle.cube.specs.Mask.{cube_of}
use Rattle.rows.specs.Sets.{most_words}
use Rattle.selection.proofs.Products.{Stage}
use Rattle.selection.proofs.covering.Covering.widened.Given as goal

abbrev pub invariant-loop-row : goal.invariant-loop-row
invariant-loop-row l = Stage l.self.context.now (cube_of l.self.context.now.n.count l.initial.p) l.p × (l.b < most_words)
