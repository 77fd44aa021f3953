use mathlib.Core.Path.{◌∙◌}
use Rattle.std.proofs.lemmas.Iterator.{YieldsList-from_slice}
use Rattle.std.proofs.lemmas.Iterator.Search.{any_from_yields_List}
use Rattle.std.proofs.Common.{rules, tests}
use lib.Dec.{ltb}
use Rattle.network_bytes.proofs.Bytes.{any_bad}
use Rattle.network_bytes.proofs.check.bad_product.Goals as goal

pub returns : goal.returns
returns c =
    let l = c.args.product.now in
    any_from_yields_List (ltb 2) _ _ c.any.result c.any.ensures.ran (YieldsList-from_slice l cc) (λ x b q k. search (rules, tests)) ∙ any_bad l
