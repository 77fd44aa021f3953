-- What the checks say, one after another, and what they leave of a problem.
use mathlib.Core.Path.{◌≡◌, sym, ap₂, ◌∙◌}
use mathlib.Core.List.{List}
use Rattle.std.specs.Prelude.{Result, Ok}
use Prim.Native.Nat.{ℕ, ◌≤◌}
use lib.ListN.{length}
use Rattle.hazard.specs.Limits.{most_required}
use Rattle.hazard.specs.Sets.{required}
use Rattle.hazard.specs.Search.{first_of}
use Rattle.hazard.specs.Refusal.{input_checks, points_checks, Accepted}
use Rattle.hazard.proofs.Few.{all_few, many_never}
use Rattle.kinds.specs.Listed.{Listed}
use Rattle.kinds.specs.Ready.{Ready}
use Rattle.kinds.proofs.Coded.{ready_listed}
use Rattle.context.specs.Planes.{Plane}
use Rattle.context.specs.declared.planes.Planes.{Planes}
use Rattle.context.specs.Context.{table_in}
use Rattle.context.proofs.Values.{table_is}
use Rattle.refusal.specs.Answer.{refused_by}
use Rattle.refusal.specs.declared.refusal.Refusal as code
use Rattle.refusal.proofs.Checks.{passed, run_passed}
use Rattle.form.specs.Formed.{form_checks}
use Rattle.form.proofs.Formed.{formed}

-- The form is found right.
module _ {A : Type 0} (n : ℕ) (f ts : List ℕ) {r : Result A code.Refusal} (e : refused_by r ≡ first_of (form_checks n f ts)) {a : A} (was : r ≡ Ok a) where
  -- What is left to be said is what checks 6 and 7 say.
  pub said_after : first_of (input_checks n f ts) ≡ first_of (points_checks n f ts)
  said_after = many_never n f ts ∙ run_passed (form_checks n f ts) e (points_checks n f ts) was

  module _ (p : Planes) (same : p.n.count ≡ n) (z : Plane f 0 p.zeros.words) (o : Plane f 1 p.ones.words) where
    -- The planes hold the table.
    pub formed_table : table_in p ≡ f
    formed_table =
        let g = formed n f ts (passed e was) in
        table_is p z o (rw same g.whole) (rw same g.bytes)

    -- What checks 6 and 7 say of the planes they say of the table.
    pub said_of : {B : Type 0} (q : Result B code.Refusal) → refused_by q ≡ first_of (points_checks p.n.count (table_in p) ts) → refused_by q ≡ first_of (input_checks n f ts)
    said_of q s = s ∙ ap₂ (λ (m : ℕ) (l : List ℕ). first_of (points_checks m l ts)) same formed_table ∙ sym said_after

-- There is room for all required cubes in an array as long as the limit.
pub problem-few : {planes : Planes} {n : ℕ} {ts : List ℕ} → Ready planes n ts → Listed n ts → length (required planes.n.count (table_in planes) ts) ≤ most_required
problem-few {planes} {n} {ts} r l =
    let h = ready_listed r l in
    all_few planes.n.count (table_in planes) ts h.narrow planes.n.few h.few

-- What is accepted, said of the table that the planes hold.
pub accepted_as : {n m : ℕ} {f g ts us : List ℕ} → m ≡ n → g ≡ f → us ≡ ts → Accepted n f ts → Accepted m g us
accepted_as e p q h = rw (e, p, q) h
