use native.Mathlib.Omega.{arith}
use Rattle.cube.proofs.WordMask.{widened_start, widened_more, widened_end, free-small}
use Rattle.cube.proofs.word_mask.low_mask.Goals as goal

pub overflow_shl-m : goal.overflow_shl-m
overflow_shl-m c = free-small c.loop-i.i (omega arith) c.args.c.care

pub loop-i-preserved : goal.loop-i-preserved
loop-i-preserved c = widened_more c.loop-i.invariant (omega arith)
