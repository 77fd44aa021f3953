-- The order of required cubes, and that single points stand in it.
use mathlib.Core.Path.{◌≡◌}
use mathlib.Core.HLevel.{×_prop, →_prop}
use mathlib.Core.Bool.{Bool}
use mathlib.Core.List.Pairwise
use mathlib.Core.List.{Pairwise}
use Prim.Native.Nat.{ℕ, ◌^◌, ◌≤◌, ◌<◌}
use native.Mathlib.Omega.{arith}
use native.Mathlib.Bridge.{le_prop}
use Rattle.hazard.specs.Cube.{span}
use Rattle.hazard.specs.Sets.{Required, single_points}
use Rattle.hazard.proofs.Search.{those_order}

-- In order of transition, and for one transition in order of label.
abbrev pub Before : Required → Required → Type 0
Before r s = (r.transition ≤ s.transition) × (r.transition ≡ s.transition → r.label < s.label)

pub before_prop : (r s : Required) → IsProp (Before r s)
before_prop r s = ×_prop le_prop (→_prop le_prop)

-- Single points stand in ascending order.
pub points_order : (n k : ℕ) (set : ℕ → Bool) → Pairwise Before (single_points n k set)
points_order n k set = Pairwise.map {S = Before} before_prop (λ x. record { transition = k; label = x; cube = span n x x }) (λ x y l. (omega arith, λ e. l)) (those_order set 0 (2 ^ n))
