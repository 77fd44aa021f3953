-- The sets that the input rules leave with a problem.
use Rattle.std.specs.Prelude.{◌≡◌, List, map, ℕ, ◌<◌, length, get_or, take}
use Rattle.hazard.specs.Sets as sets
use Rattle.cube.specs.Entry.{required_in, CleanWord}
use Rattle.context.specs.declared.planes.Planes.{Planes}
use Rattle.context.specs.declared.context.Context.{Context}
use Rattle.context.specs.Context.{privileged_of, table_in}

-- The context has the inputs and the OFF-set of the planes, and the privileged cubes of their table and the transitions; there are k required cubes,
-- and the words `few` hold as many of them as they can.
pub record SetsOf (planes : Planes) (ts : List ℕ) (context : Context) (few : List ℕ) (k : ℕ) : Type 0 where
  pub inputs : context.n ≡ planes.n
  pub off' : context.off ≡ planes.zeros
  pub privileged' : privileged_of context ≡ sets.privileged planes.n.count (table_in planes) ts
  pub count' : k ≡ length (sets.required planes.n.count (table_in planes) ts)
  pub few' : map (required_in planes.n.count) (take k few) ≡ take (length few) (sets.required planes.n.count (table_in planes) ts)
  pub clean : (i : ℕ) → i < k → CleanWord planes.n.count (get_or few i 0)
