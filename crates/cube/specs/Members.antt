-- The members of a word's set, taken one after another.
use Rattle.std.specs.Prelude.{◌≡◌, ◌≢◌, ◌<◌, ℕ, Option, MatchOption}
use Rattle.std.specs.Int.Count.{count_trailing_zeros}
use Rattle.hazard.specs.Cube.{flip}
use Rattle.cube.specs.declared.member.Members.{Members}

-- The lowest member comes, and leaves the set; from the empty set none comes, and it stays empty.
abbrev pub TakesLowest : Members → Option ℕ → Members → Type 0
TakesLowest before member after =
    MatchOption member ((before.left ≡ 0) × (after.left ≡ 0))
    (λ i. (before.left ≢ 0) × (i ≡ count_trailing_zeros 64 before.left) × (after.left ≡ flip before.left i) × (after.left < before.left))
