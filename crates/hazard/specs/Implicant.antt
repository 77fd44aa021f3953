-- Dhf-implicants (document 01: legal products) and dhf-primes (maximal legal products).
-- The OFF-set is a test on points and the privileged cubes are a list: nothing here looks at a table.
use Rattle.std.specs.Prelude.{Bool, not, ◌&&◌, List, ℕ, ◌^◌, ◌<◌, T, Option}
use Rattle.hazard.specs.Search.{found, first, find}
use Rattle.hazard.specs.Cube.{Cube, is_product, has, meets, inside}
use Rattle.hazard.specs.Sets.{Privileged}

-- The cube intersects the privileged cube illegally: they share a point, and the cube lacks the start point.
abbrev pub illegal : Cube → Privileged → Bool
illegal c v = meets c v.cube && not (has c v.start)

module _ (n : ℕ) (off : ℕ → Bool) where
  -- The lowest point of the OFF-set in the cube.
  abbrev pub lowest_zero : Cube → Option ℕ
  lowest_zero c = first (λ x. has c x && off x) 0 (2 ^ n)

  -- A dhf-implicant: no point of the OFF-set, no illegal intersection.
  abbrev pub dhf_implicant : List Privileged → Cube → Bool
  dhf_implicant vs c = not (found (lowest_zero c)) && not (found (find (illegal c) vs))

-- A dhf-prime: a dhf-implicant such that each dhf-implicant around it lies inside it.
pub record DhfPrime (n : ℕ) (off : ℕ → Bool) (vs : List Privileged) (p : Cube) : Type 0 where
  pub product : T (is_product n p)
  pub dhf : T (dhf_implicant n off vs p)
  pub maximal : (q : Cube) → T (is_product n q) → T (dhf_implicant n off vs q) → T (inside p q) → T (inside q p)

-- All points of p are points of q, and q has more (document 01: strictly inside).
pub record StrictlyInside (n : ℕ) (p q : Cube) : Type 0 where
  pub within : (x : ℕ) → x < 2 ^ n → T (has p x) → T (has q x)
  pub more : (x : ℕ) × (x < 2 ^ n) × T (has q x) × (¬ T (has p x))
