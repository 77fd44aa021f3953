use native.Mathlib.Omega.{arith}
use Rattle.blocks.proofs.Storing.{block_step}
use Rattle.blocks.proofs.fill.block_into.Goals as goal
use Rattle.blocks.proofs.fill.block_into.Goals.{After-allowed_at-allowed}

pub loop-i-preserved : goal.loop-i-preserved
loop-i-preserved c =
    let w = c.allowed_at-allowed in
    rw (c.run_of.ensures, c.run_of-in-loop-i.ensures, c.run_of-in-loop-i-2.ensures, c.stride-words.ensures) (block_step c.loop-i.invariant w.result c.requires.1 (omega (arith, c.args.n.few)) w.ensures)
