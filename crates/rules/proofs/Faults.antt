-- Function hazards and don't cares by the planes are the table's.
use mathlib.Core.Path.{◌≡◌, sym, ap, ◌∙◌}
use mathlib.Core.Bool.{Bool, ◌&&◌}
use mathlib.Core.List.{List}
use Rattle.std.specs.Prelude.{Option}
use Prim.Native.Nat.{ℕ, ◌^◌, ◌<◌}
use native.Mathlib.Omega.{arith}
use lib.Dec.{eqb}
use lib.Pow.{pow_mono}
use Rattle.hazard.specs.Search.{first}
use Rattle.hazard.specs.Cube as digits
use Rattle.hazard.specs.Cube.{has, span}
use Rattle.hazard.specs.Transition.{Kind, rise, fall, value, function_hazard, undefined_at}
use Rattle.hazard.specs.Implicant.{lowest_zero}
use Rattle.cube.specs.PointSet.{in_set}
use Rattle.hazard.proofs.Search.{first-same}
use Rattle.moves.specs.Turn.{turns}
use Rattle.moves.proofs.Agree.{turns_agree}
use Rattle.context.specs.declared.planes.Planes.{Planes}
use Rattle.context.specs.Planes.{Plane}
use Rattle.context.specs.Context.{table_in, DontCares}
use Rattle.context.proofs.PlaneWord.{plane_in}
use Rattle.context.proofs.Values.{table-length, table-value, plane_zeros, plane_ones}
use Rattle.rules.specs.Fault.{hazard_by}

-- In a cube, tests that agree find the same.
pub found-same : (n : ℕ) (ds : digits.Cube) (s t : ℕ → Bool) → ((x : ℕ) → x < 2 ^ n → s x ≡ t x) → first (λ x. has ds x && s x) 0 (2 ^ n) ≡ first (λ x. has ds x && t x) 0 (2 ^ n)
found-same n ds s t g = first-same (λ x. has ds x && s x) (λ x. has ds x && t x) 0 (2 ^ n) (λ x u l. ap (λ (y : Bool). has ds x && y) (g x (omega arith)))

-- The lowest point of [A,B] in one set with a move further into another.
abbrev pub turning : ℕ → ℕ → ℕ → List ℕ → List ℕ → Option ℕ
turning n a b from to = first (λ x. has (span n a b) x && turns n (in_set from) (in_set to) a b x) 0 (2 ^ n)

module _ (p : Planes) where
  -- A static transition: the points of the other value.
  pub static_is : {v : ℕ} {words : List ℕ} → Plane (table_in p) v words → (a b : ℕ) → lowest_zero p.n.count (in_set words) (span p.n.count a b) ≡ first (λ x. has (span p.n.count a b) x && eqb (value (table_in p) x) v) 0 (2 ^ p.n.count)
  static_is {v} {words} q a b = found-same p.n.count (span p.n.count a b) (in_set words) (λ x. eqb (value (table_in p) x) v) (λ x l. plane_in q x (omega (arith, l, table-length p)))

  -- A dynamic one: the points before the wrong move.
  pub rise_is : (a b : ℕ) → turning p.n.count a b p.ones.words p.zeros.words ≡ hazard_by p.n.count (table_in p) rise a b
  rise_is a b = found-same p.n.count (span p.n.count a b) (turns p.n.count (in_set p.ones.words) (in_set p.zeros.words) a b) (function_hazard p.n.count (table_in p) rise a b) (turns_agree p.n.count (table-length p) a b (plane_ones p) (plane_zeros p))

  pub fall_is : (a b : ℕ) → turning p.n.count a b p.zeros.words p.ones.words ≡ hazard_by p.n.count (table_in p) fall a b
  fall_is a b = found-same p.n.count (span p.n.count a b) (turns p.n.count (in_set p.zeros.words) (in_set p.ones.words) a b) (function_hazard p.n.count (table_in p) fall a b) (turns_agree p.n.count (table-length p) a b (plane_zeros p) (plane_ones p))

  -- The don't cares of [A,B].
  pub undefined_is : {twos : List ℕ} → DontCares p.zeros.words p.ones.words twos → (a b : ℕ) → lowest_zero p.n.count (in_set twos) (span p.n.count a b) ≡ undefined_at p.n.count (table_in p) a b
  undefined_is {twos} d a b = found-same p.n.count (span p.n.count a b) (in_set twos) (λ x. eqb (value (table_in p) x) 2) (λ x l. d.is x (omega (arith, l, pow_mono {j = 10} p.n.few)) ∙ ap (λ (y : ℕ). eqb y 2) (sym (table-value p x l)))

-- The hazard of a kind that is known.
pub kind-is : (n : ℕ) (f : List ℕ) (a b : ℕ) {k κ : Kind} → k ≡ κ → hazard_by n f κ a b ≡ hazard_by n f k a b
kind-is n f a b e = ap (λ (y : Kind). hazard_by n f y a b) (sym e)
