-- What the planes and a context say of their output.
use Rattle.std.specs.Prelude.{◌≡◌, Bool, cond, ◌||◌, List, [], ◌∷◌, map, take, ℕ, zero, suc, ◌^◌, ◌<◌, eqb}
use Rattle.hazard.specs.Sets.{Privileged}
use Rattle.cube.specs.Entry.{privileged_in}
use Rattle.cube.specs.PointSet.{in_set}
use Rattle.context.specs.declared.context.Context.{Context}
use Rattle.context.specs.declared.planes.Planes.{Planes}

-- The OFF-set, and the privileged cubes.
abbrev pub off_in : Context → ℕ → Bool
off_in c = in_set c.off.words

abbrev pub privileged_words : Context → List ℕ
privileged_words c = take c.count c.privileged

abbrev pub privileged_of : Context → List Privileged
privileged_of c = map (privileged_in c.n.count) (privileged_words c)

-- The value at a point, by the planes of 0 and of 1.
abbrev pub value_by : List ℕ → List ℕ → ℕ → ℕ
value_by zeros ones x = cond (in_set zeros x) 0 (cond (in_set ones x) 1 2)

-- The values of the m points from x on.
unfoldable pub values_from : List ℕ → List ℕ → ℕ → ℕ → List ℕ
values_from zeros ones x zero = []
values_from zeros ones x (suc m) = value_by zeros ones x ∷ values_from zeros ones (suc x) m

abbrev pub value_at : Planes → ℕ → ℕ
value_at p x = value_by p.zeros.words p.ones.words x

-- The table whose planes they are.
abbrev pub table_in : Planes → List ℕ
table_in p = values_from p.zeros.words p.ones.words 0 (2 ^ p.n.count)

-- The point has a value, 0 or 1.
abbrev pub defined_at : Planes → ℕ → Bool
defined_at p x = in_set p.zeros.words x || in_set p.ones.words x

-- The words hold the don't cares, among the numbers below 1024.
pub record DontCares (zeros ones out : List ℕ) : Type 0 where
  pub is : (x : ℕ) → x < 1024 → in_set out x ≡ eqb (value_by zeros ones x) 2
