use Rattle.std.proofs.Common.{rules}
use mathlib.Core.Path.{◌≡◌, refl, ap, ◌∙◌}
use mathlib.Core.List.{reverse}
use Prim.Native.Nat.{◌≤◌}
use native.Mathlib.Omega.{arith}
use lib.ListN.{length}
use Rattle.std.proofs.lemmas.List.{length-reverse, reverse-reverse}
use Rattle.std.proofs.lemmas.Fn.{fold_over}
use Rattle.std.proofs.lemmas.Iterator.Adapters.{YieldsList-from_rev_slice}
use Rattle.std.specs.Iterator.Adapters.{rev_steps}
use Rattle.std.specs.Slice.Iter.{iter_steps_back}
use Rattle.context.specs.Planes.{plane_word}
use Rattle.context.proofs.PlaneWord.{plane_more}
use Rattle.context.proofs.planes.plane_words.Goals as goal

pub returns : goal.returns
unfolding plane_word
returns c =
    let f = c.args.points.now in
    let whole = fold_over (rev_steps iter_steps_back) (λ y. y.now) _
    (λ ys a. (length ys ≤ 64 → a.0 ≡ plane_word 0 (reverse ys)) × (length ys ≤ 64 → a.1 ≡ plane_word 1 (reverse ys))) _
    (λ ys a x r f' j k. search (rules, plane_more 0 ys x.now a.0 j.0, plane_more 1 ys x.now a.1 j.1)) c.rev.result (reverse f) _ _
    (YieldsList-from_rev_slice f (search rules)).runs (λ h. refl, λ h. refl) c.fold.ensures.ran in
    let few : length (reverse f) ≤ 64 = omega (arith, length-reverse f) in
    (whole.0 few ∙ ap (plane_word 0) (reverse-reverse f), whole.1 few ∙ ap (plane_word 1) (reverse-reverse f))
