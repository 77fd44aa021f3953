-- How the wires move, in one transition from a to b.
use Rattle.std.specs.Prelude.{◌≡◌, Bool, true, false, not, cond, ◌&&◌, ◌||◌, List, [], ◌∷◌, ◌++◌, ℕ, suc, ◌+◌, eqb}
use Rattle.hazard.specs.Cube.{Cube, bit, fits}
use Rattle.hazard.specs.Transition.{Kind, low, rise, fall, high}
use Rattle.hazard.specs.Cover.{Network}

-- The wire of a literal: the product's place in the network, and the input.
pub record Wire : Type 0 where
  pub product : ℕ
  pub input : ℕ

-- The wire of input i in product j.
abbrev pub wire : ℕ → ℕ → Wire
wire j i = record { product = j; input = i }

-- The two wires are one.
abbrev pub same_wire : Wire → Wire → Bool
same_wire v w = eqb v.product w.product && eqb v.input w.input

-- The wire stands in the list.
abbrev pub seen : List Wire → Wire → Bool
seen [] w = false
seen (v ∷ vs) w = same_wire v w || seen vs w

-- How often a wire stands in a list.
abbrev pub times : List Wire → Wire → ℕ
times [] w = 0
times (v ∷ vs) w = cond (same_wire v w) 1 0 + times vs w

module _ (a b : ℕ) where
  -- The wires of product j from input i on: one for each literal whose input moves.
  abbrev pub wires_of : ℕ → ℕ → Cube → List Wire
  wires_of j i [] = []
  wires_of j i (d ∷ ds) =
      elim (not (eqb d 2) && not (eqb (bit a i) (bit b i))) [ true ↦ wire j i ∷ wires_of j (suc i) ds | false ↦ wires_of j (suc i) ds ]

  -- The wires of the products from place j on.
  abbrev pub wires : ℕ → Network → List Wire
  wires j [] = []
  wires j (p ∷ net) = wires_of j 0 p ++ wires (suc j) net

  -- A run: all the wires, each as often as the network has it (once), in any order.
  abbrev pub Run : Network → List Wire → Type 0
  Run net r = (w : Wire) → times r w ≡ times (wires 0 net) w

  -- What the literal of product j on input i sees once the wires of m have moved.
  abbrev pub sees : List Wire → ℕ → ℕ → ℕ
  sees m j i = cond (seen m (wire j i)) (bit b i) (bit a i)

  -- All literals of product j from input i on are satisfied by what they see.
  abbrev pub on : List Wire → ℕ → ℕ → Cube → Bool
  on m j i [] = true
  on m j i (d ∷ ds) = fits (sees m j i) d && on m j (suc i) ds

  -- Some product from place j on has all its literals satisfied.
  abbrev pub output : List Wire → ℕ → Network → Bool
  output m j [] = false
  output m j (p ∷ net) = on m j 0 p || output m (suc j) net

  -- The output list: after the wires of m, and after each further wire.
  abbrev pub outputs : Network → List Wire → List Wire → List Bool
  outputs net m [] = output m 0 net ∷ []
  outputs net m (w ∷ ws) = output m 0 net ∷ outputs net (w ∷ m) ws

-- All entries are v.
abbrev pub Constant : Bool → List Bool → Type 0
Constant v [] = Unit {0}
Constant v (b ∷ bs) = (b ≡ v) × Constant v bs

-- One or more v, and then one or more of the other value.
pub data Turns (v : Bool) : List Bool → Type 0 where
  turn : {bs : List Bool} → Constant (not v) bs → Turns v (v ∷ not v ∷ bs)
  hold : {bs : List Bool} → Turns v bs → Turns v (v ∷ bs)

-- The output lists that a transition of each kind allows.
abbrev pub Allowed : Kind → List Bool → Type 0
Allowed low bs = Constant false bs
Allowed rise bs = Turns false bs
Allowed fall bs = Turns true bs
Allowed high bs = Constant true bs
