-- Where check 6 finds nothing, every end has a value.
use mathlib.Core.Path.{◌≡◌, refl, ◌∙◌}
use mathlib.Core.Logic.{◌≢◌}
use mathlib.Core.Bool.{Bool, true, false, cond, ◌||◌}
use mathlib.Core.List.{List}
use Rattle.std.specs.Prelude.{None}
use Prim.Native.Nat.{ℕ, ◌+◌, ◌*◌, ◌^◌, ◌<◌}
use lib.Dec.{T}
use lib.ListN.{get_or}
use Rattle.hazard.specs.Cube.{has, span}
use Rattle.hazard.specs.Transition.{start, end, count}
use Rattle.hazard.specs.Refusal.{defined_check}
use Rattle.hazard.proofs.Cube.{→has, span_left, span_right}
use Rattle.hazard.proofs.Rules.{defined_all, defined_value}
use Rattle.cube.specs.PointSet.{in_set}
use Rattle.context.specs.declared.planes.Planes.{Planes}
use Rattle.context.specs.Context.{table_in, defined_at}
use Rattle.context.proofs.Values.{table-value}
use Rattle.kinds.specs.Listed.{Listed}
use Rattle.kinds.specs.Ready.{Ready}

has_value : (z o : Bool) → ◌≢◌ {A = ℕ} (cond z 0 (cond o 1 2)) 2 → T (z || o)
has_value true o h = tt
has_value false true h = tt
has_value false false h = h refl

pub defined_ready : (p : Planes) (n : ℕ) (ts : List ℕ) → p.n.count ≡ n → Listed n ts → defined_check p.n.count (table_in p) ts ≡ None → Ready p n ts
defined_ready p n ts e l none =
    record {
      same = e;
      from = λ k i. defined k i (start ts k) (within (2 * k)) (→has (span_left p.n.count (start ts k) (end ts k)));
      to = λ k i. defined k i (end ts k) (within (2 * k + 1)) (→has (span_right p.n.count (start ts k) (end ts k)));
    }
  where
    within : (i : ℕ) → get_or ts i 0 < 2 ^ p.n.count
    within i = rw e (l.within i)

    defined : (k : ℕ) → k < count ts → (x : ℕ) → x < 2 ^ p.n.count → T (has (span p.n.count (start ts k) (end ts k)) x) → T (defined_at p x)
    defined k i x h t =
        has_value (in_set p.zeros.words x) (in_set p.ones.words x)
        (λ v. defined_value p.n.count (table_in p) (start ts k) (end ts k) (defined_all p.n.count (table_in p) ts none k i) x h t (table-value p x h ∙ v))
