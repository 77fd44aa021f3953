-- The sets made from the table and the transitions: required cubes and privileged cubes.
use Rattle.std.specs.Prelude.{Bool, true, false, not, ◌&&◌, List, [], ◌∷◌, ◌++◌, map, ℕ, zero, suc, ◌^◌, eqb}
use Rattle.hazard.specs.Search.{those}
use Rattle.hazard.specs.Cube.{Cube, has, span}
use Rattle.hazard.specs.Transition.{value, start, end, count, visited, Kind, low, rise, fall, high, kind, further}

-- A required cube, with the number of its transition and its label. A single point has no transition: the number of transitions stands there.
pub record Required : Type 0 where
  pub transition : ℕ
  pub label : ℕ
  pub cube : Cube

-- A privileged cube, with the number of its transition and its start point.
pub record Privileged : Type 0 where
  pub transition : ℕ
  pub cube : Cube
  pub start : ℕ

-- On the way from s to e, x is a 1 with no 1 one move further: [s,x] is a maximal subcube on which f is 1 (Lemma 2.8).
abbrev pub maximal_label : ℕ → List ℕ → ℕ → ℕ → ℕ → Bool
maximal_label n f s e x = has (span n s e) x && (eqb (value f x) 1 && not (further n f s e x 1))

-- The labels of the required cubes of a transition from a to b. A rise is a fall from b to a.
abbrev pub labels : ℕ → List ℕ → Kind → ℕ → ℕ → List ℕ
labels n f low a b = []
labels n f rise a b = those (maximal_label n f b a) 0 (2 ^ n)
labels n f fall a b = those (maximal_label n f a b) 0 (2 ^ n)
labels n f high a b = b ∷ []

-- The end of the transition that lies in all its required cubes; of a dynamic one it is the start point of the privileged cube too.
abbrev pub start_point : Kind → ℕ → ℕ → ℕ
start_point low a b = a
start_point rise a b = b
start_point fall a b = a
start_point high a b = a

-- The function changes in a transition of this kind.
abbrev pub dynamic : Kind → Bool
dynamic low = false
dynamic rise = true
dynamic fall = true
dynamic high = false

-- The kind of transition k.
abbrev pub kind_at : List ℕ → List ℕ → ℕ → Kind
kind_at f ts k = kind f (start ts k) (end ts k)

-- The start point of transition k.
abbrev pub start_at : List ℕ → List ℕ → ℕ → ℕ
start_at f ts k = start_point (kind_at f ts k) (start ts k) (end ts k)

-- The points of a set, each a required cube of its own with itself for its label, in ascending order, and k for their transition.
abbrev pub single_points : ℕ → ℕ → (ℕ → Bool) → List Required
single_points n k set = map (λ x. record { transition = k; label = x; cube = span n x x }) (those set 0 (2 ^ n))

module _ (n : ℕ) (f ts : List ℕ) where
  -- The required cubes of transition k, in order of label: [A,X] of a fall, [X,B] of a rise, [A,B] of a static high.
  abbrev pub required_of : ℕ → List Required
  required_of k = map (λ x. record { transition = k; label = x; cube = span n (start_at f ts k) x }) (labels n f (kind_at f ts k) (start ts k) (end ts k))

  -- The required cubes of the m transitions from k on.
  abbrev pub required_from : ℕ → ℕ → List Required
  required_from k zero = []
  required_from k (suc m) = required_of k ++ required_from (suc k) m

  -- The required cubes of all transitions, in order of transition, then of label, repeats kept.
  abbrev pub of_transitions : List Required
  of_transitions = required_from 0 (count ts)

  -- A 1 that no transition visits.
  abbrev pub unvisited : ℕ → Bool
  unvisited x = eqb (value f x) 1 && not (visited n ts x)

  -- Those 1s, with the number of transitions where others have their transition.
  abbrev pub of_points : List Required
  of_points = single_points n (count ts) unvisited

  -- The required cubes: those of the transitions, and after them the single points.
  abbrev pub required : List Required
  required = of_transitions ++ of_points

  -- The privileged cubes of the m transitions from k on.
  abbrev pub privileged_from : ℕ → ℕ → List Privileged
  privileged_from k zero = []
  privileged_from k (suc m) =
      elim (dynamic (kind_at f ts k)) [
        | true ↦ record { transition = k; cube = span n (start ts k) (end ts k); start = start_at f ts k } ∷ privileged_from (suc k) m
        | false ↦ privileged_from (suc k) m
      ]

  -- The privileged cubes, in order of transition.
  abbrev pub privileged : List Privileged
  privileged = privileged_from 0 (count ts)
