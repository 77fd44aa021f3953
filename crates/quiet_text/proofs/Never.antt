-- Refusal 8 is never printed: whatever refusal the output is the text of, its number is another.
use mathlib.Core.Logic.{◌≢◌}
use mathlib.Core.Path.{◌≡◌, refl, sym, ap, ◌∙◌}
use mathlib.Core.List.{List}
use Rattle.std.specs.Prelude.{Option, None, Some}
use Rattle.std.proofs.lemmas.Option.{same_Some}
use Prim.Native.Nat.{ℕ, ◌≤◌, ◌<◌}
use native.Mathlib.Omega.{arith}
use native.Mathlib.Decide.{dec_lt}
use lib.ListN.{length, get_or, take, drop}
use lib.Seq.{take_at}
use Rattle.hazard.specs.Limits.{most_cover}
use Rattle.hazard.specs.Search.{first_of}
use Rattle.hazard.specs.Refusal.{Refusal, refusal}
use Rattle.hazard.proofs.Search.{none-some}
use Rattle.hazard.proofs.Numbers.{no_more, next, block_number, never_eight}
use Rattle.hazard.proofs.Bounds.{minimiser_bounds}
use Rattle.problem_text.specs.Form.{space, Formed}
use Rattle.problem_text.specs.Read.{field_by}
use Rattle.problem_text.proofs.Numbers.{field_read}
use Rattle.writing.specs.Output.{most_output, refusal_text}
use Rattle.quiet_text.specs.Answer.{checks, Printed, Solved, Replied}
use Rattle.quiet_text.proofs.Solving.{same-checks}

-- An output is the text of one thing only.
one-output : {before bytes other after : List ℕ} {r : Option ℕ} → Printed before bytes after r → Printed before other after r → bytes ≡ other
one-output {before} {bytes} {other} p q =
    let e : length bytes ≡ length other = same_Some _ _ (sym p.count ∙ q.count) in
    sym (take_at bytes (drop (length bytes) before) (length bytes) refl) ∙ ap (take (length bytes)) (sym p.is ∙ q.is) ∙ take_at other (drop (length other) before) (length bytes) (sym e)

-- The number of a refusal is read from its text.
text_number : (q : Refusal) → q.number < 65536 → (rest : List ℕ) × (field_by space (drop 8 (refusal_text q)) ≡ Some (q.number, rest))
text_number q l = (_, field_read space q.number _ refl l)

same_number : (p q : Refusal) → p.number < 65536 → q.number < 65536 → refusal_text p ≡ refusal_text q → p.number ≡ q.number
same_number p q l m e =
    let (s, f) = text_number p l in
    let (t, g) = text_number q m in
    ap (λ (x : ℕ × List ℕ). x.0) (same_Some _ _ (sym f ∙ ap (λ (b : List ℕ). field_by space (drop 8 b)) e ∙ g))

-- Neither for a problem,
solved_never_eight : {n : ℕ} {f ts before after : List ℕ} {r : Option ℕ} → Solved n f ts before after r → (q : Refusal) → Printed before (refusal_text q) after r → q.number ≢ 8
solved_never_eight {n} {f} {ts} s q p h = go (first_of (checks n f ts)) refl
  where
    go : (o : Option Refusal) → first_of (checks n f ts) ≡ o → ⊥
    go None e = let (net, m, w) = s.network e in let z : ◌≡◌ {A = ℕ} 112 114 = ap (λ (l : List ℕ). get_or l 0 0) (one-output w p) in omega (arith, z)
    go (Some x) e =
        let b = minimiser_bounds n f ts most_cover (same-checks n f ts (omega arith) ∙ e) in
        never_eight n f ts (next (block_number n f ts) no_more) (λ t. t) e (same_number x q (omega (arith, b.number)) (omega arith) (one-output (s.refused x e).0 p) ∙ h)

-- nor for a text.
pub replied_never_eight : {text before after : List ℕ} {k : ℕ} → Replied text before after (Some k) → (q : Refusal) → Printed before (refusal_text q) after (Some k) → q.number ≢ 8
replied_never_eight {text} {before} {after} {k} s q p h = go (dec_lt (length before) most_output)
  where
    unformed : most_output ≤ length before → ¬ Formed text
    unformed l (n, f, ps, w) = solved_never_eight (s.solved l n f ps w) q p h

    go : Dec (length before < most_output) → ⊥
    go (yes l) = none-some (sym (s.no_room l).0)
    go (no l) = let m : most_output ≤ length before = omega arith in omega (arith, same_number (refusal 13 0 0) q (omega arith) (omega arith) (one-output (s.malformed m (unformed m)) p))
