-- Checks one after another find what the definitions' searches find.
use mathlib.Core.Path.{◌≡◌, sym, ap, ◌∙◌}
use mathlib.Core.Bool.{Bool, cond}
use Rattle.std.specs.Prelude.{Option, None, Some, option_map, Result, Ok, Err}
use Prim.Native.Nat.{ℕ, ◌<◌}
use native.Mathlib.Omega.{arith}
use native.Mathlib.Decide.{dec_lt}
use Rattle.hazard.specs.Search.{first, first_place}
use Rattle.hazard.proofs.Test.{cond_no, cond_yes}
use Rattle.hazard.proofs.Search.{none-some, First, nowhere, lowest, first-is, Place, empty, placed, place_is}
use Rattle.kinds.specs.Each.{FirstFailed}

-- A failure tells something, and what passes tells nothing.
module _ {E A : Type 0} (told : Result (Unit {0}) E → Option A) (passes : told (Ok tt) ≡ None) (fails : (e : E) → told (Err e) ≡ None → ⊥) {said : ℕ → Result (Unit {0}) E → Type 0} (count : ℕ) where
  -- The first failure is at k, where no number below k fails and k does.
  at_first : (look : ℕ → Option A) → ((k : ℕ) → k < count → (r : Result (Unit {0}) E) → said k r → told r ≡ look k) → {r : Result (Unit {0}) E} → FirstFailed said count r
      → (k : ℕ) → k < count → (look k ≡ None → ⊥) → ((j : ℕ) → j < k → look j ≡ None) → told r ≡ look k
  at_first look e {r = Ok tt} w k l some none = absurd (some (sym (e k l (Ok tt) (w.all k l)) ∙ passes))
  at_first look e {r = Err q} w k m some none =
      let (i, l, s, before) = w.first in
      elim (dec_lt k i) [
        | yes u ↦ absurd (some (sym (e k m (Ok tt) (before k u)) ∙ passes))
        | no u ↦ elim (dec_lt i k) [
          | yes v ↦ absurd (fails q (e i l (Err q) s ∙ none i v))
          | no v ↦ let p : i ≡ k = omega arith in e i l (Err q) s ∙ ap look p
        ]
      ]

  no_first : (look : ℕ → Option A) → ((k : ℕ) → k < count → (r : Result (Unit {0}) E) → said k r → told r ≡ look k) → {r : Result (Unit {0}) E} → FirstFailed said count r
      → ((j : ℕ) → j < count → look j ≡ None) → told r ≡ None
  no_first look e {r = Ok tt} w none = passes
  no_first look e {r = Err q} w none = let (i, l, s, before) = w.first in absurd (fails q (e i l (Err q) s ∙ none i l))

  -- The checks test,
  pub first_tested : (test : ℕ → Bool) (g : ℕ → A) → (r : Result (Unit {0}) E) → FirstFailed said count r
      → ((k : ℕ) → k < count → (r : Result (Unit {0}) E) → said k r → told r ≡ cond (test k) (Some (g k)) None) → told r ≡ option_map g (first test 0 count)
  first_tested test g r w e = go (first test 0 count) (first-is test 0 count)
    where
      go : (o : Option ℕ) → First test 0 count o → told r ≡ option_map g o
      go None (nowhere h) = no_first (λ k. cond (test k) (Some (g k)) None) e w (λ j l. cond_no (test j) _ _ (h j (omega arith) (omega arith)))
      go (Some x) (lowest t l m h) =
          let y = cond_yes (test x) (Some (g x)) None t in
          at_first (λ k. cond (test k) (Some (g k)) None) e w x (omega arith) (λ q. none-some (sym q ∙ y)) (λ j k. cond_no (test j) _ _ (h j (omega arith) k)) ∙ y

  -- or look.
  pub first_looked : (look : ℕ → Option ℕ) (g : ℕ × ℕ → A) → (r : Result (Unit {0}) E) → FirstFailed said count r
      → ((k : ℕ) → k < count → (r : Result (Unit {0}) E) → said k r → told r ≡ option_map (λ x. g (k, x)) (look k)) → told r ≡ option_map g (first_place look 0 count)
  first_looked look g r w e = go (first_place look 0 count) (place_is look 0 count)
    where
      go : (o : Option (ℕ × ℕ)) → Place look 0 count o → told r ≡ option_map g o
      go None (empty h) = no_first (λ k. option_map (λ x. g (k, x)) (look k)) e w (λ j l. ap (option_map (λ x. g (j, x))) (h j (omega arith) (omega arith)))
      go (Some p) (placed {k = k} {x = x} l m y h) =
          let z = ap (option_map (λ (x : ℕ). g (k, x))) y in
          at_first (λ k. option_map (λ x. g (k, x)) (look k)) e w k (omega arith) (λ q. none-some (sym q ∙ z)) (λ j u. ap (option_map (λ x. g (j, x))) (h j (omega arith) u)) ∙ z
