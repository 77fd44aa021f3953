use mathlib.Core.Path.{◌≡◌}
use lib.ListN.{length, take}
use Rattle.cube.specs.Mask.{cube_of}
use Rattle.cube.proofs.bytes.write_product.Given as goal

abbrev pub invariant-loop-i : goal.invariant-loop-i
invariant-loop-i l = take l.i l.out ≡ take l.i (cube_of (length l.initial.out) l.c)
