-- The twelve set pieces of document 01, K1 to K12, as one table.
use Rattle.std.specs.Prelude.{true, false, List, [], ◌∷◌, ℕ}
use Rattle.hazard.specs.Run.{wire}
use Rattle.hazard.specs.Refusal.{refusal}
use Rattle.hazard.specs.Verdict.{passed, holds_zero, intersects, uncovered}
use Rattle.hazard.specs.Piece.{Item, minimised, declined, verified, moved, Piece}

-- A problem with one item.
abbrev pub piece : ℕ → List ℕ → List ℕ → Item → Piece
piece n f ts i = record { inputs = n; table = f; transitions = ts; item = i }

-- The problems of K2, K4 and K7, which several pieces share.
abbrev pub k2 : Item → Piece
k2 = piece 2 (1 ∷ 1 ∷ 1 ∷ 0 ∷ []) (0 ∷ 3 ∷ [])

abbrev pub k4 : Item → Piece
k4 = piece 3 (0 ∷ 1 ∷ 0 ∷ 1 ∷ 0 ∷ 0 ∷ 1 ∷ 1 ∷ []) (3 ∷ 7 ∷ [])

abbrev pub k7 : Item → Piece
k7 = piece 3 (0 ∷ 2 ∷ 1 ∷ 1 ∷ 1 ∷ 2 ∷ 1 ∷ 0 ∷ []) (2 ∷ 7 ∷ 6 ∷ 0 ∷ [])

-- K5's network: 120 and 211.
abbrev pub net5 : List ℕ
net5 = 1 ∷ 2 ∷ 0 ∷ 2 ∷ 1 ∷ 1 ∷ []

-- K9's network: 210, 012 and 021.
abbrev pub net9 : List ℕ
net9 = 2 ∷ 1 ∷ 0 ∷ 0 ∷ 1 ∷ 2 ∷ 0 ∷ 2 ∷ 1 ∷ []

-- In the order K1 to K12. K5 and K9 have two rows: the verdict, and the run that shows it. In K5's the wire of input 2 in 120 moves first.
abbrev pub pieces : List Piece
pieces =
    piece 1 (1 ∷ 1 ∷ []) (0 ∷ 1 ∷ []) (minimised ((2 ∷ []) ∷ []))
    ∷ k2 (minimised ((0 ∷ 2 ∷ []) ∷ (2 ∷ 0 ∷ []) ∷ []))
    ∷ piece 2 (0 ∷ 1 ∷ 1 ∷ 1 ∷ []) (1 ∷ 2 ∷ []) (declined (refusal 7 0 0))
    ∷ k4 (minimised ((1 ∷ 1 ∷ 2 ∷ []) ∷ (1 ∷ 2 ∷ 0 ∷ []) ∷ (2 ∷ 1 ∷ 1 ∷ []) ∷ []))
    ∷ k4 (verified net5 (uncovered 0 7))
    ∷ k4 (moved net5 0 (wire 0 2 ∷ wire 1 2 ∷ []) (true ∷ false ∷ true ∷ []))
    ∷ k4 (verified (1 ∷ 2 ∷ 0 ∷ 2 ∷ 1 ∷ 1 ∷ 1 ∷ 1 ∷ 2 ∷ []) passed)
    ∷ k7 (declined (record { number = 10; transition = 0; point = 3; steps = 1; lowest = 7; product = 0 }))
    ∷ piece 3 (0 ∷ 2 ∷ 1 ∷ 1 ∷ 1 ∷ 2 ∷ 1 ∷ 2 ∷ []) (2 ∷ 3 ∷ 6 ∷ 0 ∷ []) (minimised ((2 ∷ 1 ∷ 2 ∷ []) ∷ (2 ∷ 2 ∷ 1 ∷ []) ∷ []))
    ∷ k7 (verified net9 (intersects 0 1))
    ∷ k7 (moved net9 1 (wire 1 1 ∷ wire 2 2 ∷ wire 0 2 ∷ wire 0 1 ∷ []) (true ∷ true ∷ false ∷ true ∷ false ∷ []))
    ∷ piece 1 (1 ∷ 2 ∷ []) (0 ∷ 1 ∷ []) (declined (refusal 6 0 1))
    ∷ k2 (verified (2 ∷ 2 ∷ []) (holds_zero 0 3))
    ∷ k2 (verified [] (uncovered 0 1))
    ∷ []
