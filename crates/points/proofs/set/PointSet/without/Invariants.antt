use lib.ListN.{get_or}
use Prim.Native.Nat.{ℕ, ◌^◌, ◌<◌}
use Rattle.cube.proofs.Sweep.{Sweep}
use Rattle.points.proofs.Without.{left_word}
use Rattle.points.proofs.set.PointSet.without.Given as goal

abbrev pub invariant-loop-w : goal.invariant-loop-w
invariant-loop-w l = record {
  swept : Sweep (left_word l.other.words) 0 l.self.words l.word-items l.w;
  fit : (u : ℕ) → u < l.w → get_or l.other.words u 0 < 2 ^ 64;
}
