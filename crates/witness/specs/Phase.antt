-- Which wires of a product move in a phase.
use Rattle.std.specs.Prelude.{Bool, cond, not, ◌&&◌, List, [], ◌∷◌, ℕ, eqb}
use Rattle.hazard.specs.Cube.{Cube}
use Rattle.hazard.specs.Transition.{Kind}
use Rattle.hazard.specs.Run.{Wire, wire, wires_of}
use Rattle.hazard.specs.Pulse.{passing, phase, phase_of}

-- The digit d, of an input that goes from x to y, has a wire that moves in phase q.
abbrev pub moves : Kind → Bool → ℕ → ℕ → ℕ → ℕ → Bool
moves k named q d x y = (not (eqb d 2) && not (eqb x y)) && eqb (phase k named (eqb d y)) q

-- The wire of input i in product j, if it is here.
abbrev pub wire_if : Bool → ℕ → ℕ → List Wire
wire_if here j i = cond here (wire j i ∷ []) []

-- The wires of product m, whose digits are p, that move in phase q of a run from a to b, where product j is the named one.
abbrev pub in_phase_of : Kind → ℕ → ℕ → ℕ → ℕ → ℕ → Cube → List Wire
in_phase_of k j a b q m p = passing (λ w. eqb (phase_of k j b p w) q) (wires_of a b m 0 p)
