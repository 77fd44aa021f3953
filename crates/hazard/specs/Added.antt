-- The points that a step adds to a cube, and the lowest zero among them.
use Rattle.std.specs.Prelude.{◌≡◌, Bool, not, ◌&&◌, ℕ, ◌^◌, ◌<◌, T, Option}
use Rattle.hazard.specs.Search.{first}
use Rattle.hazard.specs.Cube.{Cube, has}

-- The added points: those of the new cube that are not in the old one.
abbrev pub added : Cube → Cube → ℕ → Bool
added old new x = has new x && not (has old x)

-- Two OFF-sets, as two tables have them, agree on the added points. Of the other points nothing is said.
abbrev pub AgreeOnAdded : ℕ → (ℕ → Bool) → (ℕ → Bool) → Cube → Cube → Type 0
AgreeOnAdded n off other old new = (x : ℕ) → x < 2 ^ n → T (added old new x) → off x ≡ other x

-- The lowest zero among the added points, or none.
abbrev pub lowest_added : ℕ → (ℕ → Bool) → Cube → Cube → Option ℕ
lowest_added n off old new = first (λ x. added old new x && off x) 0 (2 ^ n)
