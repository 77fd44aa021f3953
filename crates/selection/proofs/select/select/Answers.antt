use mathlib.Core.Path.{◌≡◌, subst}
use Rattle.std.specs.Prelude.{ℕ, Result}
use Rattle.refusal.specs.declared.refusal.Refusal.{Refusal}
use Rattle.selection.specs.Choose.{Choice}
use Rattle.selection.proofs.Selecting.{kept_from}
use Rattle.selection.proofs.select.select.Goals as goal
use Rattle.selection.proofs.select.select.Goals.{After-blocks_into, After-choose, Start}

-- What the choice says, of its answer.
choice : (c : After-choose) {r : Result ℕ Refusal} → c.choose.result ≡ r
    → let a = c.args in Choice a.context.now a.required.now c.choose.new.firsts c.choose.new.products r
choice c e =
    let a = c.args in
    subst (Choice a.context.now a.required.now c.choose.new.firsts c.choose.new.products) e c.choose.ensures

pub returns : goal.returns
returns c = let h = choice (goal.at.returns c).After-choose c.in_ok-end.was in kept_from h.1 c.irredundant_from-start.ensures h.0 _
