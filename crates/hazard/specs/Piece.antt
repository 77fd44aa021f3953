-- A set piece: a problem, what is asked of it and what the answer is; and what it says.
use Rattle.std.specs.Prelude.{◌≡◌, Bool, List, [], ℕ, ◌*◌, ◌/◌, length, None, Some}
use Rattle.hazard.specs.Search.{first_of}
use Rattle.hazard.specs.Transition.{start, end}
use Rattle.hazard.specs.Sets.{required}
use Rattle.hazard.specs.Cover.{Network}
use Rattle.hazard.specs.Run.{Wire, Run, outputs}
use Rattle.hazard.specs.Refusal.{Refusal}
use Rattle.hazard.specs.Verdict.{Verdict, fault, verdict, products}
use Rattle.hazard.specs.Pulse.{run_for}
use Rattle.hazard.specs.Minimal.{minimiser_checks, Minimal}

-- What is asked, and the answer.
pub data Item : Type 0 where
  -- The minimiser's network.
  minimised : Network → Item
  -- The minimiser refuses.
  declined : Refusal → Item
  -- The verifier's verdict on the bytes of a network.
  verified : List ℕ → Verdict → Item
  -- The run that is written for that verdict, of this transition, and its output list.
  moved : List ℕ → ℕ → List Wire → List Bool → Item

-- A problem, with an item on it.
pub record Piece : Type 0 where
  pub inputs : ℕ
  pub table : List ℕ
  pub transitions : List ℕ
  pub item : Item

module _ (n : ℕ) (f ts : List ℕ) where
  -- The length of a buffer that is just long enough for the minimiser.
  abbrev pub buffer_length : ℕ
  buffer_length = n * length (required n f ts)

  -- The length of a wire buffer that is just long enough for the verifier.
  abbrev pub wires_length : List ℕ → ℕ
  wires_length bytes = 2 * n * (length bytes / n)

  -- This network and no other: it is minimal, and every minimal network is it.
  pub record Exactly (net : Network) : Type 0 where
    pub taken : first_of (minimiser_checks n f ts buffer_length) ≡ None
    pub meets : Minimal n f ts net
    pub only : (other : Network) → Minimal n f ts other → other ≡ net

  -- What an item says of the problem.
  abbrev pub Says : Item → Type 0
  Says (minimised net) = Exactly net
  Says (declined r) = first_of (minimiser_checks n f ts buffer_length) ≡ Some r
  Says (verified bytes v) = verdict n f ts bytes (wires_length bytes) ≡ v
  Says (moved bytes k ws bs) =
      (run_for f ts (products n bytes) (fault n f ts (products n bytes)) ≡ ws)
      × Run (start ts k) (end ts k) (products n bytes) ws × (outputs (start ts k) (end ts k) (products n bytes) [] ws ≡ bs)

-- The set piece holds.
abbrev pub Holds : Piece → Type 0
Holds p = Says p.inputs p.table p.transitions p.item
