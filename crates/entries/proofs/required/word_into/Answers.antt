use mathlib.Core.Path.{◌≡◌, refl, ap, ◌∙◌}
use mathlib.Core.List.{[], ◌∷◌}
use Prim.Native.Nat.{ℕ, ◌^◌}
use borrow.Author.Rules.{rules}
use Rattle.std.specs.Option.{unwrap_or}
use Rattle.points.proofs.Members.{points_below}
use Rattle.entries.specs.Store.{required_to}
use Rattle.entries.proofs.Filling.{storing_start, storing_below, storing_room, storing_more, stored_as}
use Rattle.entries.proofs.required.word_into.Goals as goal

pub loop-label-init : goal.loop-label-init
loop-label-init c =
    let q = c.points_of-label-items.ensures in
    (refl, rw (c.into_iter-label-iterator.ensures.into_iter_gives, q.0, q.1) (storing_start _ _ c.args.out.now.room.now c.args.out.now.next (points_below c.requires.points.1)))

pub loop-label-preserved : goal.loop-label-preserved
loop-label-preserved c =
    let a = c.args in
    let p = c.store.ensures in
    let unwrapped : c.unwrap_or.result ≡ unwrap_or a.corner c.in-Some.label = search rules in
    (p.same_room ∙ c.loop-label.invariant.0, storing_more c.loop-label.invariant.1 c.in-Some.ensures.steps (stored_as (ap (λ (s : ℕ). required_to a.n.count a.t s c.in-Some.label ∷ []) unwrapped) p.stored))
