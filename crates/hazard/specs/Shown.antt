-- What shows that a verdict is right: a run that is not allowed, or a difference at rest.
use Rattle.std.specs.Prelude.{◌≡◌, Bool, true, false, ◌&&◌, List, [], ◌∷◌, ◌++◌, ℕ, ◌*◌, eqb, ltb, length, drop}
use Rattle.hazard.specs.Transition.{value, start, end, count, Kind, low, rise, fall, high}
use Rattle.hazard.specs.Sets.{kind_at}
use Rattle.hazard.specs.Cover.{Network, gives}
use Rattle.hazard.specs.Run.{Wire, Run, outputs, Allowed}
use Rattle.hazard.specs.Verdict.{Verdict, refused, passed, holds_zero, intersects, uncovered}

-- A hazard: a run of transition k whose output list is not allowed (document 02: a false pulse).
pub record Hazard (f ts : List ℕ) (net : Network) (k : ℕ) (r : List Wire) : Type 0 where
  pub whole : Run (start ts k) (end ts k) net r
  pub not_allowed : ¬ Allowed (kind_at f ts k) (outputs (start ts k) (end ts k) net [] r)

-- A difference at rest: the table has the value v at x, and the network gives 1 if that is 0, and 0 if not.
pub record AtRest (f : List ℕ) (net : Network) (x v : ℕ) : Type 0 where
  pub table : value f x ≡ v
  pub network : gives net x ≡ eqb v 0

-- The kind is 1 to 1.
abbrev pub is_high : Kind → Bool
is_high low = false
is_high rise = false
is_high fall = false
is_high high = true

-- Number k is that of a transition from 1 to 1. A single point has none: the number given for it is past the last.
abbrev pub stays_high : List ℕ → List ℕ → ℕ → Bool
stays_high f ts k = ltb k (count ts) && is_high (kind_at f ts k)

-- What shows that a required cube is uncovered: a run of its transition, if that is one from 1 to 1; else its label, and no wire.
abbrev pub EvidenceB : List ℕ → List ℕ → Network → ℕ → ℕ → List Wire → Bool → Type 0
EvidenceB f ts net k x ws true = Hazard f ts net k ws
EvidenceB f ts net k x ws false = AtRest f net x 1 × (ws ≡ [])

-- What has to hold for a verdict, and of the wires that are written with it.
abbrev pub Evidence : List ℕ → List ℕ → Network → Verdict → List Wire → Type 0
Evidence f ts net (refused r) ws = ws ≡ []
Evidence f ts net passed ws = ws ≡ []
Evidence f ts net (holds_zero j x) ws = AtRest f net x 0 × (ws ≡ [])
Evidence f ts net (intersects j k) ws = Hazard f ts net k ws
Evidence f ts net (uncovered k x) ws = EvidenceB f ts net k x ws (stays_high f ts k)

-- The wires' numbers, as the buffer holds them: product, input, product, input, ..
abbrev pub numbers : List Wire → List ℕ
numbers [] = []
numbers (w ∷ ws) = w.product ∷ w.input ∷ numbers ws

-- Wires that show a verdict stand in a buffer: of them, of their count, and of the buffer before and after.
pub record Shown (f ts : List ℕ) (net : Network) (v : Verdict) (before after : List ℕ) (size : ℕ) : Type 0 where
  -- Which run is written is free.
  pub wires : List Wire
  pub evidence : Evidence f ts net v wires
  pub counted : size ≡ length wires
  -- The wires, then the buffer's old rest.
  pub buffer : after ≡ numbers wires ++ drop (2 * length wires) before
