-- What the makers' walks find are the definitions' labels and points.
use mathlib.Core.Path.{◌≡◌, refl, sym, ap, ◌∙◌, subst}
use mathlib.Core.Bool.{Bool, true, not, ◌&&◌}
use Prim.Native.Nat.{ℕ, ◌^◌, ◌≤◌}
use lib.Bits.{bit_xor, and_zero_r}
use lib.Dec.{eqb}
use lib.Pow.{pow_pos}
use Rattle.hazard.specs.Cube as digits
use Rattle.hazard.specs.Cube.{has, span}
use Rattle.hazard.specs.Transition.{value, further}
use Rattle.hazard.specs.Sets.{maximal_label}
use Rattle.cube.specs.declared.mask.Cube.{Cube}
use Rattle.cube.specs.Mask.{cube_of, digits_of, Stands}
use Rattle.cube.specs.PointSet.{in_set}
use Rattle.cube.proofs.Masks.{has_masks}
use Rattle.points.specs.declared.walk.Walk.{Walk}
use Rattle.points.specs.Walk.{visits, Walks}
use Rattle.points.proofs.Agree.{Agrees, walk_agrees}
use Rattle.moves.specs.Turn.{lasts}
use Rattle.moves.proofs.Agree.{lasts_agree}
use Rattle.context.specs.declared.planes.Planes.{Planes}
use Rattle.context.specs.Context.{table_in}
use Rattle.context.proofs.Values.{table-length, plane_ones}

-- Labels: the points of [S,E] in the plane of 1 with no move further into it.
pub labels_agree : (p : Planes) (s e : ℕ) {c : Cube} → Stands p.n.count c (span p.n.count s e) → {walk : Walk} → Walks p.n.count walk (has (cube_of p.n.count c))
    → Agrees (λ x. visits walk x && lasts p.n.count (in_set p.ones.words) s e x) (maximal_label p.n.count (table_in p) s e) (2 ^ p.n.count)
labels_agree p s e st {walk} k =
    let n = p.n.count in
    subst (λ (ds : digits.Cube). Agrees (λ x. visits walk x && lasts n (in_set p.ones.words) s e x) (λ x. has ds x && (eqb (value (table_in p) x) 1 && not (further n (table_in p) s e x 1))) (2 ^ n)) st.is
    (walk_agrees k p.n.few (lasts_agree n (table-length p) s e (plane_ones p)))

-- The cube without literals has every point.
has_all : (n x : ℕ) → has (digits_of n 0 0) x ≡ true
has_all n x = sym (has_masks n 0 0 x (pow_pos n)) ∙ ap (λ (y : ℕ). eqb y 0) (and_zero_r (bit_xor x 0))

pub points_agree : {n : ℕ} → n ≤ 10 → {walk : Walk} → Walks n walk (has (digits_of n 0 0)) → (set : ℕ → Bool) → Agrees (λ x. visits walk x && set x) set (2 ^ n)
points_agree {n} few k set =
    let a = walk_agrees k few {test = set} {like = set} (λ x l. refl) in
    record { in' = λ x l. a.in' x l ∙ ap (λ (b : Bool). b && set x) (has_all n x); past = a.past }
