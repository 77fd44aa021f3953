use Rattle.cube.proofs.WordMask.{Widened}
use Rattle.cube.proofs.word_mask.low_mask.Given as goal

abbrev pub invariant-loop-i : goal.invariant-loop-i
invariant-loop-i l = Widened l.c l.i l.m
