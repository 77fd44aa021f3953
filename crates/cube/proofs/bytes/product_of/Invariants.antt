use Prim.Native.Nat.{◌-◌}
use lib.ListN.{length, drop}
use Rattle.cube.specs.Mask.{Stands}
use Rattle.cube.proofs.bytes.product_of.Given as goal

abbrev pub invariant-loop-i : goal.invariant-loop-i
invariant-loop-i l = Stands (length l.bytes - l.i) l.c (drop l.i l.bytes)
