-- A reading of the points that a step adds asks nothing of the others.
use mathlib.Core.Path.{◌≡◌, refl, ◌∙◌}
use mathlib.Core.Bool.{Bool}
use Rattle.std.specs.Prelude.{Option}
use Prim.Native.Nat.{ℕ, ◌≤◌}
use Rattle.hazard.specs.Cube.{Cube}
use Rattle.hazard.specs.Added.{added, AgreeOnAdded, lowest_added}
use Rattle.hazard.proofs.Added.{added_agree}
use Rattle.points.specs.declared.walk.Walk.{Walk}
use Rattle.points.specs.Walk.{lowest_on, Walks}
use Rattle.points.proofs.Agree.{lowest_agrees}

-- What a walk over the added points finds of an OFF-set is the lowest added zero of every one that agrees with it there.
pub added-found : {n : ℕ} {k : Walk} {off : ℕ → Bool} (other : ℕ → Bool) (old new : Cube) {found : Option ℕ} → Walks n k (added old new) → n ≤ 10 → found ≡ lowest_on k off
    → AgreeOnAdded n off other old new → found ≡ lowest_added n other old new
added-found {n} {off = off} other old new w few e a = e ∙ lowest_agrees w few (λ x l. refl) ∙ added_agree n off other old new a
