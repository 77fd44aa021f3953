-- Expansion of a dhf-implicant to a dhf-prime, literal by literal. Which dhf-prime comes out is free; this is the one that the code takes.
use Rattle.std.specs.Prelude.{Bool, cond, List, ℕ, zero, suc, eqb, get_or, set}
use Rattle.hazard.specs.Cube.{Cube, supercube}
use Rattle.hazard.specs.Sets.{Privileged}
use Rattle.hazard.specs.Growth.{Growth, Legal, Blocked, grow}

-- The grown cube where growth ends legal, else the cube that was there before.
abbrev pub grown_or : Cube → Growth → Cube
grown_or p (Legal c s) = c
grown_or p (Blocked z s) = p

module _ (n : ℕ) (off : ℕ → Bool) (vs : List Privileged) where
  -- The literal of input i raised, and the cube grown, where there is one and that ends legal.
  abbrev pub raise : Cube → ℕ → Cube
  raise p i = cond (eqb (get_or p i 0) 2) p (grown_or p (grow n off vs (set p i 2)))

  -- The m literals from input i on raised, one after the other.
  abbrev pub expand_from : ℕ → ℕ → Cube → Cube
  expand_from i zero p = p
  expand_from i (suc m) p = expand_from (suc i) m (raise p i)

  -- All literals raised, from input 0 on.
  abbrev pub expand : Cube → Cube
  expand p = expand_from 0 n p

  -- The cube grown over a further one, where that ends legal.
  abbrev pub absorb : Cube → Cube → Cube
  absorb p r = grown_or p (grow n off vs (supercube p r))
