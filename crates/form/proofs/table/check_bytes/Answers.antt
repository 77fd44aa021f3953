use mathlib.Core.Path.{◌≡◌, sym, ap, ◌∙◌}
use Rattle.std.specs.Prelude.{option_map}
use Rattle.std.proofs.lemmas.Iterator.{YieldsList-from_slice}
use Rattle.std.proofs.lemmas.Iterator.Search.{position_from_yields_List}
use Rattle.std.proofs.lemmas.Iterator.Adapters.{position_from-zero}
use Rattle.std.proofs.Common.{rules, tests}
use native.Mathlib.Nat.{zero-add}
use lib.Dec.{ltb}
use lib.ListN.{length}
use Rattle.hazard.specs.Search.{first}
use Rattle.hazard.specs.Transition.{value}
use Rattle.hazard.specs.Refusal.{refusal}
use Rattle.cube.proofs.Positions.{position-first}
use Rattle.form.proofs.table.check_bytes.Goals as goal
use Rattle.form.proofs.table.check_bytes.Goals.{After-position}

-- The place that was found is the lowest point.
lowest : (c : After-position) → c.position.result ≡ first (λ x. ltb 2 (value c.args.table.now x)) 0 (length c.args.table.now)
lowest c =
    let f = c.args.table.now in
    position_from_yields_List (ltb 2) _ _ c.position.result c.position.ensures.ran (YieldsList-from_slice f cc) (λ x b q k. search (rules, tests))
    ∙ position_from-zero (ltb 2) f ∙ position-first (ltb 2) (λ x. ltb 2 (value f x)) 2 f 0 (λ k l. rw zero-add)

pub returns-in-Some : goal.returns-in-Some
returns-in-Some c = ap (option_map (λ x. refusal 3 0 x)) (sym c.in-Some.is ∙ lowest (goal.at.returns-in-Some c).After-position)

pub returns-in-None : goal.returns-in-None
returns-in-None c = ap (option_map (λ x. refusal 3 0 x)) (sym c.in-None.is ∙ lowest (goal.at.returns-in-None c).After-position)
