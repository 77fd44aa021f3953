-- The program's promise, from what was read and what was printed.
use mathlib.Core.Path.{◌≡◌, refl, sym, subst, ◌∙◌}
use mathlib.Core.List.{List, ◌∷◌}
use Rattle.std.specs.Prelude.{Option, None, Some}
use Rattle.std.proofs.lemmas.Option.{same_Some}
use Prim.Native.Nat.{ℕ, suc, ◌≤◌, ◌<◌}
use native.Mathlib.Omega.{arith}
use lib.ListN.{length, take}
use Rattle.hazard.specs.Search.{first_of}
use Rattle.hazard.specs.Refusal.{Refusal, refusal}
use Rattle.hazard.proofs.Search.{none-some}
use Rattle.problem_text.specs.Form.{Form, flat}
use Rattle.writing.specs.Output.{most_output, refusal_text}
use Rattle.problem_text.specs.Read.{Reading, problem, malformed}
use Rattle.quiet_text.specs.Answer.{checks, Printed, Solved, Replied}
use Rattle.problem_text.specs.declared.read.Sizes.{Sizes}
use Rattle.problem_text.proofs.Forms.{form_unique}
use Rattle.quiet_text.proofs.Solving.{printed-within}

-- What is counted for a problem lies in the buffer.
solved-within : {n : ℕ} {f ts before after : List ℕ} {r : Option ℕ} → Solved n f ts before after r → (k : ℕ) → r ≡ Some k → k ≤ length after
solved-within {n} {f} {ts} {before} {after} {r} s = go (first_of (checks n f ts)) refl
  where
    go : (o : Option Refusal) → first_of (checks n f ts) ≡ o → (k : ℕ) → r ≡ Some k → k ≤ length after
    go (Some q) e = printed-within (s.refused q e).0
    go None e = printed-within (s.network e).2

-- What is printed has a head, so it is not empty.
printed-some : {before after : List ℕ} {r : Option ℕ} (b : ℕ) (bytes : List ℕ) → Printed before (b ∷ bytes) after r → (k : ℕ) → r ≡ Some k → 0 < k
printed-some b bytes w k e = let i : suc (length bytes) ≡ k = same_Some _ _ (sym w.count ∙ e) in omega (arith, i)

solved-some : {n : ℕ} {f ts before after : List ℕ} {r : Option ℕ} → Solved n f ts before after r → (k : ℕ) → r ≡ Some k → 0 < k
solved-some {n} {f} {ts} {before} {after} {r} s = go (first_of (checks n f ts)) refl
  where
    go : (o : Option Refusal) → first_of (checks n f ts) ≡ o → (k : ℕ) → r ≡ Some k → 0 < k
    go (Some q) e = printed-some _ _ (s.refused q e).0
    go None e = printed-some _ _ (s.network e).2

-- The problem that was read is the only one that the text says.
only-solved : {text : List ℕ} {n : ℕ} {f : List ℕ} {ps : List (ℕ × ℕ)} {before after : List ℕ} {r : Option ℕ} → Form text n f ps → Solved n f (flat ps) before after r
    → (m : ℕ) (g : List ℕ) (qs : List (ℕ × ℕ)) → Form text m g qs → Solved m g (flat qs) before after r
only-solved {n = n} {f = f} {ps = ps} {before = before} {after = after} {r = r} s a m g qs t =
    let (i, j, k) = form_unique s t in
    let a₁ : Solved m f (flat ps) before after r = subst (λ (m : ℕ). Solved m f (flat ps) before after r) i a in
    let a₂ : Solved m g (flat ps) before after r = subst (λ (g : List ℕ). Solved m g (flat ps) before after r) j a₁ in
    subst (λ (qs : List (ℕ × ℕ)). Solved m g (flat qs) before after r) k a₂

module _ {text before after : List ℕ} {r : Option ℕ} where
  pub replied_short : length before < most_output → after ≡ before → r ≡ None → Replied text before after r
  replied_short h e n =
      record {
        no_room = λ l. (n, e);
        within = λ k s. none-some (sym n ∙ s);
        some' = λ k s. none-some (sym n ∙ s);
        malformed = λ l. absurd (omega (arith, l));
        solved = λ l. absurd (omega (arith, l));
      }

  module _ {table ts : List ℕ} (h : most_output ≤ length before) where
    pub replied_malformed : Reading text table ts None → Printed before (refusal_text (refusal 13 0 0)) after r → Replied text before after r
    replied_malformed (malformed n) w =
        record {
          no_room = λ l. absurd (omega (arith, l));
          within = printed-within w;
          some' = printed-some _ _ w;
          malformed = λ l m. w;
          solved = λ l n' f' ps s. absurd (n (n', f', ps, s));
        }

    pub replied_solved : {q : Sizes} → Reading text table ts (Some q) → Solved q.inputs (take q.table table) (take q.transitions ts) before after r → Replied text before after r
    replied_solved {q} (problem ps s e k t) a =
        let b : Solved q.inputs (take q.table table) (flat ps) before after r = subst (λ (l : List ℕ). Solved q.inputs (take q.table table) l before after r) e a in
        record {
          no_room = λ l. absurd (omega (arith, l));
          within = solved-within b;
          some' = solved-some b;
          malformed = λ l n. absurd (n (q.inputs, take q.table table, ps, s));
          solved = λ l. only-solved s b;
        }
