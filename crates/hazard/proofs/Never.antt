-- Refusal 8 never comes, from either call.
use mathlib.Core.Path.{◌≡◌, refl, sym, ap, subst, ◌∙◌}
use mathlib.Core.Logic.{◌≢◌}
use mathlib.Core.List.{List}
use Rattle.std.specs.Prelude.{Option, None, Some}
use Prim.Native.Nat.{ℕ}
use native.Mathlib.Omega.{arith}
use lib.ListN.{length}
use Rattle.hazard.specs.Search.{first_of}
use Rattle.hazard.specs.Transition.{off}
use Rattle.hazard.specs.Sets.{Required, required, privileged}
use Rattle.hazard.specs.Refusal.{Refusal}
use Rattle.hazard.specs.Verdict.{verifier_checks, Verdict, refused, fault_a, fault_c, fault_b, first_fault, fault, products, fields_of, Verified}
use Rattle.hazard.specs.Minimal.{minimiser_checks, declined, Promise}
use Rattle.hazard.proofs.Numbers.{no_more, next, block_number, room-number, products-number, digits_number, wires-number, never_eight}

-- A fault is no refusal.
fault_refuses : (a c : Option (ℕ × ℕ)) (b : Option Required) → (fields_of (first_fault a c b)).refusal ≡ 0
fault_refuses (Some p) c b = refl
fault_refuses None (Some p) b = refl
fault_refuses None None (Some r) = refl
fault_refuses None None None = refl

module _ (n : ℕ) (f ts : List ℕ) where
  -- Whatever the minimiser promises, its refusal is another.
  pub minimised_never_eight : {before after : List ℕ} {q : Refusal} → Promise n f ts before after (declined q) → q.number ≢ 8
  minimised_never_eight {before} {after} {q} p = go (first_of (minimiser_checks n f ts (length before))) refl
    where
      inner : (r : Refusal) → declined q ≡ declined r → r ≡ q
      inner r e = cc

      go : (o : Option Refusal) → first_of (minimiser_checks n f ts (length before)) ≡ o → q.number ≢ 8
      go (Some r) e = subst (λ (x : Refusal). x.number ≢ 8) (inner r (p.refused r e).0) (never_eight n f ts (next (room-number n f ts (length before)) (next (block_number n f ts) no_more)) (λ t. t) e)
      go None e = let z : ◌≡◌ {A = ℕ} 0 1 = let w = (p.network e).1 in cc in absurd (omega arith)

  -- Whatever the verifier promises, the refusal's number is another.
  pub verified_never_eight : {bytes : List ℕ} {room : ℕ} {v : Verdict} → Verified n f ts bytes room v → (fields_of v).refusal ≢ 8
  verified_never_eight {bytes} {room} {v} p = go (first_of (verifier_checks n f ts bytes room)) refl
    where
      judgement : Option Refusal → Verdict
      judgement o = elim o [ Some r ↦ refused r | None ↦ fault n f ts (products n bytes) ]

      same : (o : Option Refusal) → first_of (verifier_checks n f ts bytes room) ≡ o → (fields_of v).refusal ≡ (fields_of (judgement o)).refusal
      same o e = ap (λ (w : Verdict). (fields_of w).refusal) (p.is ∙ ap judgement e)

      go : (o : Option Refusal) → first_of (verifier_checks n f ts bytes room) ≡ o → (fields_of v).refusal ≢ 8
      go (Some q) e h = never_eight n f ts (next (products-number n bytes) (next (digits_number n (products n bytes)) (next (wires-number n bytes room) no_more))) (λ t. t) e (sym (same (Some q) e) ∙ h)
      go None e h = omega (arith, same None e, fault_refuses (fault_a n (off f) (products n bytes)) (fault_c (privileged n f ts) (products n bytes)) (fault_b (required n f ts) (products n bytes)))
