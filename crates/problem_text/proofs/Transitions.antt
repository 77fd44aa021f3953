-- Reading the lines of transitions reads exactly their printed form.
use mathlib.Core.Logic.{◌≢◌}
use mathlib.Core.Path.{◌≡◌, refl, sym, ap, ap₂, ◌∙◌}
use mathlib.Core.List.{List, [], ◌∷◌, ◌++◌, append_assoc, append-nil}
use Rattle.std.specs.Prelude.{None, Some, option_and_then}
use Rattle.std.proofs.lemmas.Option.{same_Some}
use Prim.Native.Nat.{ℕ, suc, ◌<◌}
use native.Mathlib.Omega.{arith}
use lib.ListN.{length, length-append}
use Rattle.hazard.proofs.Search.{none-some}
use Rattle.problem_text.specs.Decimal.{decimal}
use Rattle.problem_text.specs.Form.{newline, space, transition_lines, Numbers}
use Rattle.problem_text.specs.Read.{field_by, transition_line}
use Rattle.problem_text.proofs.Numbers.{then_known, field_read, field-spelled}

-- The text begins with the line of the transition from a to b.
pub record Line (cs : List ℕ) (a b : ℕ) (rest : List ℕ) : Type 0 where
  pub is : cs ≡ decimal a ++ (space ∷ decimal b ++ (newline ∷ rest))
  pub start : a < 65536
  pub end : b < 65536

pub line_read : (a b : ℕ) (cs : List ℕ) → a < 65536 → b < 65536 → transition_line (decimal a ++ (space ∷ decimal b ++ (newline ∷ cs))) ≡ Some (a, b, cs)
line_read a b cs h k =
    ap (option_and_then (λ (p : ℕ × List ℕ). option_and_then (λ (q : ℕ × List ℕ). Some (p.0, q.0, q.1)) (field_by newline p.1))) (field_read space a (decimal b ++ (newline ∷ cs)) refl h)
    ∙ ap (option_and_then (λ (q : ℕ × List ℕ). Some (a, q.0, q.1))) (field_read newline b cs refl k)

pub line_spelled : (cs : List ℕ) {a b : ℕ} {rest : List ℕ} → transition_line cs ≡ Some (a, b, rest) → Line cs a b rest
line_spelled cs {a} {b} {rest} h =
    let (p, q, r) = then_known (field_by space cs) (λ p. option_and_then (λ q. Some (p.0, q.0, q.1)) (field_by newline p.1)) h in
    let (p', q', r') = then_known (field_by newline p.1) (λ q. Some (p.0, q.0, q.1)) r in
    let l : ◌≡◌ {A = ℕ × ℕ × List ℕ} (p.0, p'.0, p'.1) (a, b, rest) = same_Some _ _ r' in
    let i : p.0 ≡ a = ap (λ (l : ℕ × ℕ × List ℕ). l.0) l in
    let j : p'.0 ≡ b = ap (λ (l : ℕ × ℕ × List ℕ). l.1) l in
    let s = field-spelled space cs q in
    let t = field-spelled newline p.1 q' in
    record {
      is = s.is ∙ ap (λ (r : List ℕ). decimal p.0 ++ (space ∷ r)) t.is ∙ ap (λ (l : ℕ × ℕ × List ℕ). decimal l.0 ++ (space ∷ decimal l.1 ++ (newline ∷ l.2))) l;
      start = omega (arith, s.below);
      end = omega (arith, t.below);
    }

-- The first of several lines is read.
lines_read : (p : ℕ × ℕ) (ps : List (ℕ × ℕ)) (cs : List ℕ) → Numbers (p ∷ ps) → transition_line (transition_lines (p ∷ ps) ++ cs) ≡ Some (p.0, p.1, transition_lines ps ++ cs)
lines_read p ps cs u =
    ap transition_line (append_assoc (decimal p.0) (space ∷ decimal p.1 ++ (newline ∷ transition_lines ps)) cs
    ∙ ap (λ (l : List ℕ). decimal p.0 ++ (space ∷ l)) (append_assoc (decimal p.1) (newline ∷ transition_lines ps) cs))
    ∙ line_read p.0 p.1 (transition_lines ps ++ cs) (u 0) (u 1)

lines_here : (p : ℕ × ℕ) (ps : List (ℕ × ℕ)) → Numbers (p ∷ ps) → transition_line (transition_lines (p ∷ ps)) ≡ Some (p.0, p.1, transition_lines ps)
lines_here p ps u = line_read p.0 p.1 (transition_lines ps) (u 0) (u 1)

-- Lines of whole transitions before a text are read off it.
pub lines_prefix : (ps qs : List (ℕ × ℕ)) (cs : List ℕ) → Numbers ps → Numbers qs → transition_lines qs ≡ transition_lines ps ++ cs → (rs : List (ℕ × ℕ)) × (qs ≡ ps ++ rs) × (cs ≡ transition_lines rs) × Numbers rs
lines_prefix [] qs cs u v e = (qs, refl, sym e, v)
lines_prefix (p ∷ ps) [] cs u v e = none-some (ap transition_line e ∙ lines_read p ps cs u)
lines_prefix (p ∷ ps) (q ∷ qs) cs u v e =
    let l : ◌≡◌ {A = ℕ × ℕ × List ℕ} (q.0, q.1, transition_lines qs) (p.0, p.1, transition_lines ps ++ cs) = same_Some _ _ (sym (lines_here q qs v) ∙ ap transition_line e ∙ lines_read p ps cs u) in
    let i : q ≡ p = ap (λ (l : ℕ × ℕ × List ℕ). (l.0, l.1)) l in
    let (rs, j, k, w) = lines_prefix ps qs cs (λ k. u (suc (suc k))) (λ k. v (suc (suc k))) (ap (λ (l : ℕ × ℕ × List ℕ). l.2) l) in
    (rs, ap₂ (λ (q : ℕ × ℕ) (qs : List (ℕ × ℕ)). q ∷ qs) i j, k, w)

-- A text that begins with no transition's line is no list of lines, unless it is empty.
pub lines_none : (qs : List (ℕ × ℕ)) {cs : List ℕ} → Numbers qs → length cs ≢ 0 → transition_line cs ≡ None → ¬ (cs ≡ transition_lines qs)
lines_none [] u h n e = h (ap length e)
lines_none (q ∷ qs) u h n e = none-some (sym n ∙ ap transition_line e ∙ lines_here q qs u)

-- So the lines of transitions tell which they are.
pub lines_unique : (ps qs : List (ℕ × ℕ)) → Numbers ps → Numbers qs → transition_lines ps ≡ transition_lines qs → ps ≡ qs
lines_unique ps qs u v e = let (rs, j, k, w) = lines_prefix ps qs [] u v (sym e ∙ sym (append-nil (transition_lines ps))) in go rs j k
  where
    go : (rs : List (ℕ × ℕ)) → qs ≡ ps ++ rs → [] ≡ transition_lines rs → ps ≡ qs
    go [] j k = sym (j ∙ append-nil ps)
    go (r ∷ rs) j k = let l : 0 ≡ length (transition_lines (r ∷ rs)) = ap length k in absurd (omega (arith, l, length-append (decimal r.0) (space ∷ decimal r.1 ++ (newline ∷ transition_lines rs))))
