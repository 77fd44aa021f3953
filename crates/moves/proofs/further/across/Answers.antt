use mathlib.Core.Path.{sym, ◌∙◌, subst⁻¹}
use Prim.Native.Nat.{ℕ, ◌+◌}
use native.Mathlib.Omega.{arith}
use lib.ListN.{get_or}
use Rattle.hazard.proofs.Point.{flip-lt}
use Rattle.cube.specs.PointSet.{in_set}
use Rattle.points.specs.PointWord.{WordOf}
use Rattle.moves.specs.Further.{moves_from}
use Rattle.moves.proofs.FurtherWord.{across_none, across_here}
use borrow.Author.Rules.{rules}
use Rattle.moves.proofs.further.across.Goals as goal

pub returns-then-bit_of-from : goal.returns-then-bit_of-from
returns-then-bit_of-from c = let a = c.args in across_none a.set.now.words a.w a.from a.j (λ e. c.if-bit_of-from.true (c.bit_of.ensures ∙ e))

pub bounds-set-flipped : goal.bounds-set-flipped
bounds-set-flipped c = omega (arith, c.flipped.ensures, flip-lt 4 c.args.w c.args.j c.requires.0 c.requires.1)

pub returns : goal.returns
returns c =
    let a = c.args in
    subst⁻¹ (λ (u : ℕ). WordOf (moves_from (in_set a.set.now.words) a.from (a.j + 6)) a.w (get_or a.set.now.words u 0)) c.flipped.ensures
    (across_here a.set.now.words a.w a.from a.j (sym c.bit_of.ensures ∙ c.if-bit_of-from.false) (search rules))
