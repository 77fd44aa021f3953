use Rattle.blocks.specs.Blocks.{BlockFilled}
use Rattle.blocks.proofs.fill.block_into.Given as goal

abbrev pub invariant-loop-i : goal.invariant-loop-i
invariant-loop-i l = BlockFilled l.rel l.i l.rows l.b l.initial.columns l.columns
