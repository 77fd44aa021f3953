use mathlib.Core.List.{List, [], ◌∷◌}
use Prim.Native.Nat.{ℕ}
use lib.Dec.{T}
use lib.ListN.{get_or}
use Rattle.moves.proofs.FurtherWord.{all, is_side, side_of}
use Rattle.moves.proofs.further.side.Goals as goal

-- The code's table, and its rule at each entry.
abbrev sides : List ℕ
sides =
    6148914691236517205 ∷ 12297829382473034410
    ∷ 3689348814741910323 ∷ 14757395258967641292
    ∷ 1085102592571150095 ∷ 17361641481138401520
    ∷ 71777214294589695 ∷ 18374966859414961920
    ∷ 281470681808895 ∷ 18446462603027742720
    ∷ 4294967295 ∷ 18446744069414584320
    ∷ []

right : T (all (λ j. is_side j (get_or sides j 0)) 12)
unfolding is_side
right = tt

pub returns : goal.returns
returns c = side_of sides right c.args.i c.args.from c.requires.0 c.requires.1
