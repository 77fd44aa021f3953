use mathlib.Core.Path.{sym, subst}
use Prim.Native.Nat.{ℕ, ◌≤◌}
use native.Mathlib.Omega.{arith}
use Rattle.cube.proofs.LowestBit.{lowest-few, one_at_lem, one_below, cleared, cleared_less}
use Rattle.cube.proofs.member.without_lowest.Goals as goal

pub overflow_sub-result : goal.overflow_sub-result
overflow_sub-result c = subst (λ (y : ℕ). y ≤ c.args.word) (sym (one_at_lem c.args.word c.ranges.word.fits c.requires)) (one_below c.args.word c.ranges.word.fits c.requires)

pub returns : goal.returns
returns c = rw (one_at_lem c.args.word c.ranges.word.fits c.requires) (cleared c.args.word c.ranges.word.fits c.requires, cleared_less c.args.word c.ranges.word.fits c.requires)
