-- What checks 1 to 6 leave to the code that reads kinds.
use Rattle.std.specs.Prelude.{◌≡◌, List, ℕ, ◌<◌, T}
use Rattle.hazard.specs.Transition.{start, end, count}
use Rattle.context.specs.declared.planes.Planes.{Planes}
use Rattle.context.specs.Context.{defined_at}

-- The list is one of transitions between points of the planes, and the ends all have a value.
pub record Ready (planes : Planes) (n : ℕ) (ts : List ℕ) : Type 0 where
  pub same : planes.n.count ≡ n
  pub from : (k : ℕ) → k < count ts → T (defined_at planes (start ts k))
  pub to : (k : ℕ) → k < count ts → T (defined_at planes (end ts k))
