-- The minimiser's promise, from its two ways to answer.
use mathlib.Core.Path.{◌≡◌, refl, sym, ap, ◌∙◌}
use mathlib.Core.List.{List, [], ◌∷◌, ◌++◌}
use Rattle.std.specs.Prelude.{Option, None, Some}
use Rattle.std.proofs.lemmas.Option.{same_Some}
use Prim.Native.Nat.{ℕ, ◌*◌}
use native.Mathlib.Omega.{arith}
use lib.ListN.{length, drop}
use Rattle.hazard.specs.Search.{first_of}
use Rattle.hazard.specs.Cover.{Network}
use Rattle.hazard.specs.Refusal.{Refusal, input_checks, Accepted}
use Rattle.hazard.specs.Minimal.{room_check, blocking, minimiser_checks, Minimal, written, declined, bytes_of, Promise}
use Rattle.hazard.proofs.Search.{none-some, first_of-append, first_of-right, first_of-one}
use Rattle.hazard.proofs.Numbers.{block_number, ten_blocks}
use Rattle.hazard.proofs.Blocking.{first-blocking}
use Rattle.hazard.proofs.Minimal.{exists_iff}

module _ (n : ℕ) (f ts before : List ℕ) where
  abbrev early : List (Option Refusal)
  early = input_checks n f ts ++ (room_check n f ts (length before) ∷ [])

  -- Checks 1 to 9 let it through: what is left is the first blocking cube.
  checks-end : first_of early ≡ None → first_of (minimiser_checks n f ts (length before)) ≡ blocking n f ts
  checks-end e = first_of-right early (blocking n f ts ∷ []) e ∙ first_of-one (blocking n f ts)

  early_accepted : first_of early ≡ None → Accepted n f ts
  early_accepted e = ((first_of-append (input_checks n f ts) (room_check n f ts (length before) ∷ [])).0 e).0

  -- Refused, and the buffer as it was.
  pub promise_refused : {q : Refusal} → first_of (minimiser_checks n f ts (length before)) ≡ Some q → Promise n f ts before before (declined q)
  promise_refused {q} e =
      record {
        refused = λ p h. (ap declined (same_Some q p (sym e ∙ h)), refl);
        network = λ h. none-some (sym h ∙ e);
        none' = λ h. let b : blocking n f ts ≡ Some q = sym (checks-end h) ∙ e in
            (λ d m. none-some (sym ((exists_iff n f ts (early_accepted h)).1 m) ∙ b), λ m. (q, refl, block_number n f ts q b));
        blocks = λ p d k.
            let h : first_of (minimiser_checks n f ts (length before)) ≡ Some p = e ∙ ap Some (same d) in
            let (a, b) = ten_blocks n f ts (length before) h k in first-blocking n f ts (early_accepted a) p b;
      }
    where
      same : {p : Refusal} → declined q ≡ declined p → q ≡ p
      same d = cc

  -- A minimal network, written.
  pub promise_written : {after : List ℕ} (net : Network) → first_of (minimiser_checks n f ts (length before)) ≡ None → Minimal n f ts net → after ≡ bytes_of net ++ drop (n * length net) before
      → Promise n f ts before after (written (length net))
  promise_written net e m w =
      record {
        refused = λ p h. none-some (sym e ∙ h);
        network = λ h. (net, refl, m, w);
        none' = λ h. (λ d. never d, λ k. absurd (k (net, λ p u. (m.primes p u).product, m.hazard_free)));
        blocks = λ q d k. never (q, d, k);
      }
    where
      never : {C : Type 0} → (q : Refusal) × (written (length net) ≡ declined q) × (q.number ≡ 10) → C
      never (q, d, k) = let z : ◌≡◌ {A = ℕ} 0 1 = cc in absurd (omega arith)
