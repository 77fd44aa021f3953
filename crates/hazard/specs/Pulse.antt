-- The run that is written for a verdict. A reader need not believe it: what shows the verdict says only what holds of the run.
use Rattle.std.specs.Prelude.{Bool, true, false, cond, List, [], ◌∷◌, ◌++◌, ℕ, eqb, get_or}
use Rattle.hazard.specs.Cube.{Cube, bit}
use Rattle.hazard.specs.Transition.{start, end, Kind, low, rise, fall, high}
use Rattle.hazard.specs.Sets.{kind_at}
use Rattle.hazard.specs.Cover.{Network, product_at}
use Rattle.hazard.specs.Run.{Wire, wires}
use Rattle.hazard.specs.Verdict.{Verdict, refused, passed, holds_zero, intersects, uncovered}
use Rattle.hazard.specs.Shown.{stays_high}

-- The wires that pass the test, in their order.
abbrev pub passing : (Wire → Bool) → List Wire → List Wire
passing test [] = []
passing test (w ∷ ws) = elim (test w) [ true ↦ w ∷ passing test ws | false ↦ passing test ws ]

-- The phase in which a wire moves, by the kind of the transition, by whether its product is the named one, and by whether its literal has
-- B's value. Rise: the named product's wires with B's value, its others, then those of the other products. Fall: those of the other products,
-- then the same two. High: the wires with A's value, then the others.
abbrev pub phase : Kind → Bool → Bool → ℕ
phase low named late = 0
phase rise named late = cond named (cond late 0 1) 2
phase fall named late = cond named (cond late 1 2) 0
phase high named late = cond late 1 0

-- The phase of a wire of a product with these digits, in a transition to b, where product j is the named one.
abbrev pub phase_of : Kind → ℕ → ℕ → Cube → Wire → ℕ
phase_of k j b p w = phase k (eqb w.product j) (eqb (get_or p w.input 2) (bit b w.input))

module _ (k : Kind) (j a b : ℕ) (net : Network) where
  -- The wires that move in one phase, in the network's order.
  abbrev pub in_phase : ℕ → List Wire
  in_phase q = passing (λ w. eqb (phase_of k j b (product_at net w.product) w) q) (wires a b 0 net)

  -- The run: phase after phase.
  abbrev pub pulse : List Wire
  pulse = in_phase 0 ++ (in_phase 1 ++ in_phase 2)

-- The run that is written for a verdict. Where no product is named, which one is taken for it changes nothing.
abbrev pub run_for : List ℕ → List ℕ → Network → Verdict → List Wire
run_for f ts net (refused r) = []
run_for f ts net passed = []
run_for f ts net (holds_zero j x) = []
run_for f ts net (intersects j k) = pulse (kind_at f ts k) j (start ts k) (end ts k) net
run_for f ts net (uncovered k x) = cond (stays_high f ts k) (pulse high 0 (start ts k) (end ts k) net) []
