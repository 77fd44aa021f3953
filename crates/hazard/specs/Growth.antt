-- Supercube-dhf (document 01: growing a required cube).
use Rattle.std.specs.Prelude.{Bool, List, ℕ, zero, suc, None, Some}
use Rattle.hazard.specs.Search.{find}
use Rattle.hazard.specs.Cube.{Cube, join}
use Rattle.hazard.specs.Sets.{Privileged}
use Rattle.hazard.specs.Implicant.{illegal, lowest_zero}

-- How growth ends: legal, with the cube and the steps taken, or blocked, with the lowest zero and the steps taken.
pub data Growth : Type 0 where
  Legal : Cube → ℕ → Growth
  Blocked : ℕ → ℕ → Growth

-- How many start points were taken in.
abbrev pub steps : Growth → ℕ
steps (Legal c s) = s
steps (Blocked z s) = s

-- Growth ended legal.
abbrev pub Grown : Growth → Type 0
Grown (Legal c s) = Unit {0}
Grown (Blocked z s) = ⊥

module _ (n : ℕ) (off : ℕ → Bool) (vs : List Privileged) where
  -- A cube that contains no zero and intersects some privileged cube illegally takes in the start point of the first such cube, and grows on.
  -- Each step frees an input, so n steps are enough and the bound on them never ends growth.
  abbrev pub grow_from : ℕ → Cube → ℕ → Growth
  grow_from zero c s = elim (lowest_zero n off c) [ Some z ↦ Blocked z s | None ↦ Legal c s ]
  grow_from (suc fuel) c s =
      elim (lowest_zero n off c) [
        | Some z ↦ Blocked z s
        | None ↦ elim (find (illegal c) vs) [ Some v ↦ grow_from fuel (join c v.start) (suc s) | None ↦ Legal c s ]
      ]

  -- Growth from the cube on, at no step yet.
  abbrev pub grow : Cube → Growth
  grow c = grow_from n c 0
