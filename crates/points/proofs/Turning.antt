-- A loop over the steps of a walk.
use mathlib.Core.Path.{◌≡◌, sym, ◌∙◌, subst}
use Rattle.std.specs.Prelude.{Some}
use Prim.Native.Nat.{◌+◌}
use Rattle.points.specs.declared.walk.Walk.{Walk}
use Rattle.points.specs.declared.walk.Step.{Step}
use Rattle.points.specs.declared.steps.Walking.{Walking}
use Rattle.points.specs.Walk.{Steps, Stepped}

-- The steps are those of the walk k, and the fact holds of the one that is next.
pub record Turning (k : Walk) (fact : Step → Type 0) (it : Walking) : Type 0 where
  pub same : it.walk ≡ k
  pub next : fact it.next

-- The walk of the steps is the one whose steps they are, and the first of them is next.
pub turning_walk : {k : Walk} {start it : Walking} → (start.walk ≡ k) × Steps k 0 start.next → it ≡ start → (it.walk ≡ k) × Steps it.walk 0 it.next
turning_walk {start = start} t e = rw e (t.0, subst (λ (w : Walk). Steps w 0 start.next) (sym t.0) t.1)

module _ {k : Walk} {fact : Step → Type 0} {it : Walking} (h : Turning k fact it) where
  -- Of the step that comes the fact holds, and the one after it is next.
  module _ {s : Step} {t : Walking} (q : Stepped it (Some s) t) where
    pub turning_at : fact s
    turning_at = subst fact (sym q.0) h.next

    pub turning_steps : Steps k (s.word + 1) t.next
    turning_steps = subst (λ (w : Walk). Steps w (s.word + 1) t.next) h.same q.3

    pub turning_more : {then : Step → Type 0} → then t.next → Turning k then t
    turning_more n = record { same = q.2 ∙ h.same; next = n }
