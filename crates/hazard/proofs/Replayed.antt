-- Runs that are written, with their output lists, and differences at rest. Each is shown for the verdict that it belongs to.
use mathlib.Core.Path.{◌≡◌, refl}
use mathlib.Core.Bool.{Bool, true, false}
use mathlib.Core.List.{List, [], ◌∷◌}
use Prim.Native.Nat.{ℕ}
use Rattle.hazard.specs.Transition.{start, end}
use Rattle.hazard.specs.Run.{outputs}
use Rattle.hazard.specs.Verdict.{Verdict, products, holds_zero, intersects, uncovered, fault}
use Rattle.hazard.specs.Shown.{Hazard, AtRest, numbers}
use Rattle.hazard.specs.Pulse.{run_for}
use Rattle.hazard.specs.Pieces.{net5, net9}
use Rattle.hazard.proofs.Shown.{verdict-right}

-- The verdict on a network, the numbers of the run for it, and the run's output list in transition k.
pub record Replayed (n : ℕ) (f ts bytes : List ℕ) (v : Verdict) (k : ℕ) (ns : List ℕ) (bs : List Bool) : Type 0 where
  pub verdict : fault n f ts (products n bytes) ≡ v
  pub wires : numbers (run_for f ts (products n bytes) v) ≡ ns
  pub replayed : outputs (start ts k) (end ts k) (products n bytes) [] (run_for f ts (products n bytes) v) ≡ bs

-- The tables of K2, K4 and K7.
abbrev table2 : List ℕ
table2 = 1 ∷ 1 ∷ 1 ∷ 0 ∷ []

abbrev table4 : List ℕ
table4 = 0 ∷ 1 ∷ 0 ∷ 1 ∷ 0 ∷ 0 ∷ 1 ∷ 1 ∷ []

abbrev table7 : List ℕ
table7 = 0 ∷ 2 ∷ 1 ∷ 1 ∷ 1 ∷ 2 ∷ 1 ∷ 0 ∷ []

-- K5, from 1 to 1.
pub k5 : Replayed 3 table4 (3 ∷ 7 ∷ []) net5 (uncovered 0 7) 0 (0 ∷ 2 ∷ 1 ∷ 2 ∷ []) (true ∷ false ∷ true ∷ [])
k5 = record { verdict = refl; wires = refl; replayed = refl }

-- K9, a fall.
pub k9 : Replayed 3 table7 (2 ∷ 7 ∷ 6 ∷ 0 ∷ []) net9 (intersects 0 1) 1 (1 ∷ 1 ∷ 2 ∷ 2 ∷ 0 ∷ 2 ∷ 0 ∷ 1 ∷ []) (true ∷ true ∷ false ∷ true ∷ false ∷ [])
k9 = record { verdict = refl; wires = refl; replayed = refl }

-- The same with the fall made a rise.
pub k9_rise : Replayed 3 table7 (2 ∷ 7 ∷ 0 ∷ 6 ∷ []) net9 (intersects 0 1) 1 (0 ∷ 1 ∷ 0 ∷ 2 ∷ 1 ∷ 1 ∷ 2 ∷ 2 ∷ []) (false ∷ true ∷ false ∷ true ∷ true ∷ [])
k9_rise = record { verdict = refl; wires = refl; replayed = refl }

-- A = B, and a transition on whose input there is no literal: nothing moves, and the one output is wrong.
pub still : Replayed 1 (1 ∷ 1 ∷ []) (0 ∷ 0 ∷ []) [] (uncovered 0 0) 0 [] (false ∷ [])
still = record { verdict = refl; wires = refl; replayed = refl }

pub unmoved : Replayed 2 (1 ∷ 1 ∷ 1 ∷ 1 ∷ []) (0 ∷ 1 ∷ []) (2 ∷ 1 ∷ []) (uncovered 0 1) 0 [] (false ∷ [])
unmoved = record { verdict = refl; wires = refl; replayed = refl }

-- So there are hazards: K5's, K9's, and the one without a wire.
pub k5_hazard : Hazard table4 (3 ∷ 7 ∷ []) (products 3 net5) 0 (run_for table4 (3 ∷ 7 ∷ []) (products 3 net5) (uncovered 0 7))
k5_hazard = verdict-right 3 table4 (3 ∷ 7 ∷ []) net5 12

pub k9_hazard : Hazard table7 (2 ∷ 7 ∷ 6 ∷ 0 ∷ []) (products 3 net9) 1 (run_for table7 (2 ∷ 7 ∷ 6 ∷ 0 ∷ []) (products 3 net9) (intersects 0 1))
k9_hazard = verdict-right 3 table7 (2 ∷ 7 ∷ 6 ∷ 0 ∷ []) net9 18

pub still_hazard : Hazard (1 ∷ 1 ∷ []) (0 ∷ 0 ∷ []) [] 0 []
still_hazard = verdict-right 1 (1 ∷ 1 ∷ []) (0 ∷ 0 ∷ []) [] 0

-- K11 and K12: a 0 that a product contains, and the label of a fall. No wire.
pub k11_rest : AtRest table2 (products 2 (2 ∷ 2 ∷ [])) 3 0 × (run_for table2 (0 ∷ 3 ∷ []) (products 2 (2 ∷ 2 ∷ [])) (holds_zero 0 3) ≡ [])
k11_rest = verdict-right 2 table2 (0 ∷ 3 ∷ []) (2 ∷ 2 ∷ []) 4

pub k12_rest : AtRest table2 [] 1 1 × (run_for table2 (0 ∷ 3 ∷ []) [] (uncovered 0 1) ≡ [])
k12_rest = verdict-right 2 table2 (0 ∷ 3 ∷ []) [] 0

-- A single point has the number of transitions for its transition: no run is written for it, though the table is 1 at point 0, where a list
-- that is read past its end would have both ends.
pub point-rest : AtRest (1 ∷ 0 ∷ 0 ∷ 1 ∷ []) [] 0 1 × (run_for (1 ∷ 0 ∷ 0 ∷ 1 ∷ []) (1 ∷ 1 ∷ []) [] (uncovered 1 0) ≡ [])
point-rest = verdict-right 2 (1 ∷ 0 ∷ 0 ∷ 1 ∷ []) (1 ∷ 1 ∷ []) [] 0
