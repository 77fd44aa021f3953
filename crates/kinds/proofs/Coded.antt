-- The kinds by the planes are the definitions'.
use mathlib.Core.Path.{◌≡◌, refl, sym, ap, ap₂, ◌∙◌}
use mathlib.Core.Bool.{Bool, true, false, cond, ◌||◌}
use mathlib.Core.List.{List}
use Prim.Native.Nat.{ℕ, ◌+◌, ◌*◌, ◌^◌, ◌<◌}
use native.Mathlib.Omega.{arith}
use lib.Dec.{T}
use lib.Pow.{pow_mono}
use Rattle.hazard.specs.Transition.{Kind, kind_of, value, start, end, count}
use Rattle.hazard.specs.Sets.{kind_at}
use Rattle.cube.specs.PointSet.{in_set}
use Rattle.cube.specs.declared.inputs.Inputs.{Inputs}
use Rattle.context.specs.declared.planes.Planes.{Planes}
use Rattle.context.specs.Context.{table_in, defined_at}
use Rattle.context.proofs.Values.{table-value}
use Rattle.kinds.specs.Codes.{one_at, kind_in}
use Rattle.kinds.specs.Listed.{Listed}
use Rattle.kinds.specs.Ready.{Ready}

-- Ten inputs have 1,024 points.
pub few_points : (n : Inputs) {x : ℕ} → x < 2 ^ n.count → x < 1024
few_points n h = omega (arith, h, pow_mono {j = 10} n.few)

-- A value that there is, is told by the plane of 1.
one_value : (z o : Bool) → (T z → o ≡ false) → T (z || o) → ◌≡◌ {A = ℕ} (cond o 1 0) (cond z 0 (cond o 1 2))
one_value true true a t = ap (λ (b : Bool). cond b 1 0) (a tt)
one_value true false a t = refl
one_value false true a t = refl
one_value false false a t = absurd t

-- The list is one of transitions between points of the planes.
pub ready_listed : {planes : Planes} {n : ℕ} {ts : List ℕ} → Ready planes n ts → Listed n ts → Listed planes.n.count ts
ready_listed r l = rw r.same l

module _ {planes : Planes} {n : ℕ} {ts : List ℕ} (r : Ready planes n ts) (h : Listed n ts) (k : ℕ) (l : k < count ts) where
  value-is : (x : ℕ) → x < 2 ^ planes.n.count → T (defined_at planes x) → one_at planes.ones.words x ≡ value (table_in planes) x
  value-is x i t = one_value (in_set planes.zeros.words x) (in_set planes.ones.words x) (planes.are.apart x) t ∙ sym (table-value planes x i)

  pub ready-kind : kind_in planes.ones.words (start ts k) (end ts k) ≡ kind_at (table_in planes) ts k
  ready-kind = ap₂ (λ (a b : ℕ). kind_of (2 * a + b)) (value-is (start ts k) ((ready_listed r h).within (2 * k)) (r.from k l)) (value-is (end ts k) ((ready_listed r h).within (2 * k + 1)) (r.to k l))

  -- What is made of a kind and ends that were read is made of the transition's.
  pub ready_ends : {X : Type 0} (make : Kind → ℕ → ℕ → X) {κ : Kind} {a b : ℕ} → κ ≡ kind_in planes.ones.words a b → a ≡ start ts k → b ≡ end ts k → make κ a b ≡ make (kind_at (table_in planes) ts k) (start ts k) (end ts k)
  ready_ends make {κ} {a} {b} e p q = ap (λ (y : Kind). make y a b) (e ∙ ap₂ (kind_in planes.ones.words) p q ∙ ready-kind) ∙ ap₂ (make (kind_at (table_in planes) ts k)) p q
