-- What the added points tell of the new cube's zeros, and that nothing else is asked of a table.
use mathlib.Core.Path.{◌≡◌, refl, ap}
use mathlib.Core.Bool.{Bool, true, false, not, ◌&&◌}
use mathlib.Core.List.{List}
use Rattle.std.specs.Prelude.{None}
use Prim.Native.Nat.{ℕ, ◌^◌, ◌<◌}
use native.Mathlib.Omega.{arith}
use lib.Dec.{T, eqb}
use Rattle.hazard.specs.Cube.{Cube, has}
use Rattle.hazard.specs.Transition.{value, off}
use Rattle.hazard.specs.Implicant.{lowest_zero}
use Rattle.hazard.specs.Added.{added, AgreeOnAdded, lowest_added}
use Rattle.hazard.proofs.Test.{T_and, T_no}
use Rattle.hazard.proofs.Search.{first-same, first-none}
use Rattle.hazard.proofs.Cube.{Inside, has→, →has, inside-has}

and_same : (a b c : Bool) → (T a → b ≡ c) → (a && b) ≡ (a && c)
and_same true b c h = h tt
and_same false b c h = refl

-- The lowest added zero is the same for any two OFF-sets that agree on the added points, whatever else the new cube holds.
pub added_agree : (n : ℕ) (off other : ℕ → Bool) (old new : Cube) → AgreeOnAdded n off other old new → lowest_added n off old new ≡ lowest_added n other old new
added_agree n off other old new h = first-same _ _ 0 (2 ^ n) (λ x l m. and_same (added old new x) (off x) (other x) (h x (omega arith)))

-- So it is for any two tables.
pub added_tables : (n : ℕ) (f g : List ℕ) (old new : Cube) → ((x : ℕ) → x < 2 ^ n → T (added old new x) → value f x ≡ value g x) → lowest_added n (off f) old new ≡ lowest_added n (off g) old new
added_tables n f g old new h = added_agree n (off f) (off g) old new (λ x l t. ap (λ (v : ℕ). eqb v 0) (h x l t))

and_rest : (a b c : Bool) → ¬ T (b && c) → (a && c) ≡ ((a && not b) && c)
and_rest true true true h = absurd (h tt)
and_rest true true false h = refl
and_rest true false c h = refl
and_rest false b c h = refl

-- If the old cube has no zero, the new cube's lowest zero is the lowest added one.
pub added_lowest : (n : ℕ) (off : ℕ → Bool) (old new : Cube) → lowest_zero n off old ≡ None → lowest_zero n off new ≡ lowest_added n off old new
added_lowest n off old new e = first-same _ _ 0 (2 ^ n) (λ x l m. and_rest (has new x) (has old x) (off x) (first-none (λ x. has old x && off x) 0 (2 ^ n) e x l m))

-- A point of a cube that lies inside the old one is not added again.
pub added_once : {c old : Cube} (new : Cube) (x : ℕ) → Inside c old → T (has c x) → ¬ T (added old new x)
added_once {c} new x i h t = let (a, b) = simp (T_and, T_no) at t in b (→has (inside-has i (has→ c x h)))
