-- The moves of points in words, and the definitions' moves.
use mathlib.Core.Path.{◌≡◌, ap, ap₂}
use mathlib.Core.Bool.{Bool, not, ◌&&◌}
use mathlib.Core.List.{List}
use Prim.Native.Nat.{ℕ, ◌^◌, ◌<◌}
use native.Mathlib.Omega.{arith}
use lib.Dec.{eqb}
use lib.ListN.{length}
use Rattle.hazard.specs.Search.{found}
use Rattle.hazard.specs.Cube.{flip}
use Rattle.hazard.specs.Transition.{value, movable, further}
use Rattle.hazard.proofs.Point.{flip-lt}
use Rattle.cube.specs.PointSet.{in_set}
use Rattle.hazard.proofs.Search.{first-same}
use Rattle.context.specs.Planes.{Plane}
use Rattle.context.proofs.PlaneWord.{plane_in}
use Rattle.moves.specs.Further.{moves_into, further_in}
use Rattle.moves.specs.Turn.{turns, lasts}

-- A move into a plane is one to a point of its value.
further-is : (n : ℕ) {f words : List ℕ} {v : ℕ} (a b : ℕ) → Plane f v words → length f ≡ 2 ^ n → (x : ℕ) → x < 2 ^ n → further_in n (in_set words) a b x ≡ further n f a b x v
further-is n {f} {words} {v} a b p e x l =
    ap found (first-same (λ i. moves_into (in_set words) a b i x) (λ i. movable a b x i && eqb (value f (flip x i)) v) 0 n
    (λ i u h. ap (λ (t : Bool). movable a b x i && t) (plane_in p (flip x i) (omega (arith, e, flip-lt n x i l (omega arith))))))

-- The points of a plane from which a move leads into another plane, and those from which no move leads into it.
module _ (n : ℕ) {f : List ℕ} (e : length f ≡ 2 ^ n) where
  pub turns_agree : {v u : ℕ} {from to : List ℕ} (a b : ℕ) → Plane f v from → Plane f u to → (x : ℕ) → x < 2 ^ n → turns n (in_set from) (in_set to) a b x ≡ (eqb (value f x) v && further n f a b x u)
  turns_agree a b p q x l = ap₂ ◌&&◌ (plane_in p x (omega (arith, e))) (further-is n a b q e x l)

  pub lasts_agree : {v : ℕ} {words : List ℕ} (a b : ℕ) → Plane f v words → (x : ℕ) → x < 2 ^ n → lasts n (in_set words) a b x ≡ (eqb (value f x) v && not (further n f a b x v))
  lasts_agree a b p x l = ap₂ (λ (s t : Bool). s && not t) (plane_in p x (omega (arith, e))) (further-is n a b p e x l)
