-- What the tests of specs/Cube say, point by point.
use mathlib.Core.Logic.{◌↔◌}
use Prim.Native.Nat.{ℕ, ◌<◌, ◌^◌}
use lib.Dec.{T}
use Rattle.hazard.specs.Cube.{Cube, is_product, has, span, join, supercube, meets, inside}
use Rattle.hazard.proofs.Cube.{digits→, →digits, has→, →has, inside→, →inside, inside-has, points_inside, meets→, →meets, join-digits, inside-join, join-has, join_least, supercube-digits, inside-left, inside-right, supercube_least, span-digits}
use Rattle.hazard.proofs.Point.{In, in_e, in_i}

-- [P,Q] is the cube of all points that agree with P on every input where P and Q agree.
pub span_points : (n p q x : ℕ) → T (has (span n p q) x) ↔ In n p q x
span_points n p q x = (in_e n p q x, in_i n p q x)

pub span-product : (n p q : ℕ) → T (is_product n (span n p q))
span-product n p q = →digits (span-digits n p q)

module _ (n : ℕ) (c d : Cube) (v : T (is_product n c)) (w : T (is_product n d)) where
  -- A product lies inside another if all its points are points of the other.
  pub inside_points : T (inside c d) ↔ ((x : ℕ) → x < 2 ^ n → T (has c x) → T (has d x))
  inside_points = (
    λ h x l k. →has (inside-has (inside→ c d h) (has→ c x k)),
    λ h. →inside (points_inside (digits→ n c v) (digits→ n d w) (λ x l k. has→ d x (h x l (→has k)))),
  )

  -- Two products meet if they share a point.
  pub meets_points : T (meets c d) ↔ ((x : ℕ) × (x < 2 ^ n) × T (has c x) × T (has d x))
  meets_points = (
    λ h. let (x, l, i, j) = meets→ (digits→ n c v) (digits→ n d w) h in (x, l, →has i, →has j),
    λ h. →meets (digits→ n c v) (digits→ n d w) (has→ c h.0 h.2) (has→ d h.0 h.3),
  )

-- The join is the smallest cube around a cube and a point.
pub record Smallest (n : ℕ) (c : Cube) (x : ℕ) (q : Cube) : Type 0 where
  pub product : T (is_product n q)
  pub around : T (inside c q)
  pub holds : T (has q x)
  pub least : (r : Cube) → T (inside c r) → T (has r x) → T (inside q r)

pub join_smallest : (n : ℕ) (c : Cube) (x : ℕ) → T (is_product n c) → Smallest n c x (join c x)
join_smallest n c x v =
    record {
      product = →digits (join-digits x (digits→ n c v));
      around = →inside (inside-join c x);
      holds = →has (join-has c x);
      least = λ r i h. →inside (join_least (inside→ c r i) (has→ r x h));
    }

-- The supercube is the smallest cube around two cubes.
pub record SmallestOfTwo (n : ℕ) (c d q : Cube) : Type 0 where
  pub product : T (is_product n q)
  pub left : T (inside c q)
  pub right : T (inside d q)
  pub least : (r : Cube) → T (inside c r) → T (inside d r) → T (inside q r)

pub supercube_smallest : (n : ℕ) (c d : Cube) → T (is_product n c) → T (is_product n d) → SmallestOfTwo n c d (supercube c d)
supercube_smallest n c d v w =
    let s = digits→ n c v in
    let t = digits→ n d w in
    record {
      product = →digits (supercube-digits s t);
      left = →inside (inside-left s t);
      right = →inside (inside-right s t);
      least = λ r i j. →inside (supercube_least (inside→ c r i) (inside→ d r j));
    }
