-- The run that the code takes is the definition's.
use mathlib.Core.Path.{◌≡◌, sym, ap, ap₂, ◌∙◌}
use mathlib.Core.Bool.{Bool, false, cond, ◌&&◌}
use mathlib.Core.List.{List, []}
use Prim.Native.Nat.{ℕ, ◌<◌, ◌≤◌}
use native.Mathlib.Omega.{arith}
use lib.Dec.{ltb, ltb→lt, lt→ltb}
use Rattle.hazard.specs.Transition.{Kind, high, start, end, count}
use Rattle.hazard.specs.Sets.{kind_at}
use Rattle.hazard.specs.Cover.{Network}
use Rattle.hazard.specs.Run.{Wire}
use Rattle.hazard.specs.Verdict.{intersects, uncovered}
use Rattle.hazard.specs.Shown.{is_high, stays_high}
use Rattle.hazard.specs.Pulse.{pulse, run_for}
use Rattle.hazard.proofs.Test.{is, isnt}
use Rattle.points.specs.declared.set.PointSet.{PointSet}
use Rattle.context.specs.declared.planes.Planes.{Planes}
use Rattle.context.specs.Context.{table_in}
use Rattle.kinds.specs.Codes.{kind_is, kind_in}
use Rattle.kinds.proofs.Coded.{ready-kind}
use Rattle.witness.specs.declared.pulse.Pulse.{Pulse}
use Rattle.witness.specs.Shows.{run_in, PulseOf, Reads}

module _ {planes : Planes} {n : ℕ} {ones : PointSet} {ts : List ℕ} (r : Reads planes n ones ts) (net : Network) (k : ℕ) where
  -- The kind that was read is the transition's.
  kind-read : {p : Pulse} {j : ℕ} → k < count ts → PulseOf ones.words ts j k p → kind_is p.kind ≡ kind_at (table_in planes) ts k
  kind-read l h = h.kind' ∙ ap (λ (o : PointSet). kind_in o.words (start ts k) (end ts k)) (sym r.ones') ∙ ready-kind r.ready r.listed k l

  -- A run of a transition of the list.
  pulse-is : {p : Pulse} {j : ℕ} → k < count ts → PulseOf ones.words ts j k p → run_in p net ≡ pulse (kind_at (table_in planes) ts k) j (start ts k) (end ts k) net
  pulse-is {p} {j} l h =
      ap (λ (κ : Kind). pulse κ p.product p.ends.start p.ends.end net) (kind-read l h)
      ∙ ap (λ (i : ℕ). pulse (kind_at (table_in planes) ts k) i p.ends.start p.ends.end net) h.product'
      ∙ ap₂ (λ (a b : ℕ). pulse (kind_at (table_in planes) ts k) j a b net) h.start' h.end'

  pub product_run : {p : Pulse} {j : ℕ} → k < count ts → PulseOf ones.words ts j k p → run_in p net ≡ run_for (table_in planes) ts net (intersects j k)
  product_run l h = pulse-is l h

  -- Past the list, at another kind, and at 1 to 1.
  pub past_run : (x : ℕ) → count ts ≤ k → [] ≡ run_for (table_in planes) ts net (uncovered k x)
  past_run x l = ap (λ (b : Bool). cond {A = List Wire} (b && is_high (kind_at (table_in planes) ts k)) (pulse high 0 (start ts k) (end ts k) net) []) (sym (isnt (ltb k (count ts)) (λ t. omega (arith, ltb→lt k (count ts) t))))

  module _ {p : Pulse} (l : k < count ts) (h : PulseOf ones.words ts 0 k p) (x : ℕ) where
    kind-is : kind_is p.kind ≡ kind_at (table_in planes) ts k
    kind-is = kind-read l h

    stays : stays_high (table_in planes) ts k ≡ is_high (kind_is p.kind)
    stays = ap (λ (b : Bool). b && is_high (kind_at (table_in planes) ts k)) (is {b = ltb k (count ts)} (lt→ltb k (count ts) l)) ∙ ap is_high (sym kind-is)

    pub other_run : is_high (kind_is p.kind) ≡ false → [] ≡ run_for (table_in planes) ts net (uncovered k x)
    other_run e = ap (λ (b : Bool). cond {A = List Wire} b (pulse high 0 (start ts k) (end ts k) net) []) (sym (stays ∙ e))

    pub high_run : kind_is p.kind ≡ high → run_in p net ≡ run_for (table_in planes) ts net (uncovered k x)
    high_run e =
        pulse-is l h
        ∙ ap (λ (κ : Kind). pulse κ 0 (start ts k) (end ts k) net) (sym kind-is ∙ e)
        ∙ ap (λ (b : Bool). cond {A = List Wire} b (pulse high 0 (start ts k) (end ts k) net) []) (sym (stays ∙ ap is_high e))
