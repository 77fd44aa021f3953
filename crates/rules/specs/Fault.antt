-- Check 7 for a kind that is given.
use Rattle.std.specs.Prelude.{◌&&◌, List, ℕ, ◌^◌, Option}
use Rattle.hazard.specs.Search.{first}
use Rattle.hazard.specs.Cube.{has, span}
use Rattle.hazard.specs.Transition.{Kind, function_hazard}

-- The lowest point of [A,B] that shows a function hazard, of a transition of the kind k.
abbrev pub hazard_by : ℕ → List ℕ → Kind → ℕ → ℕ → Option ℕ
hazard_by n f k a b = first (λ x. has (span n a b) x && function_hazard n f k a b x) 0 (2 ^ n)
