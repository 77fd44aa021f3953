-- A text is of the form exactly if its three parts are read.
use mathlib.Core.Path.{◌≡◌, sym, ap, ◌∙◌}
use mathlib.Core.List.{List, ◌∷◌, ◌++◌, map}
use Rattle.std.specs.Prelude.{None, Some}
use Rattle.std.proofs.lemmas.Option.{same_Some}
use Prim.Native.Nat.{ℕ, ◌≤◌, ◌<◌}
use native.Mathlib.Omega.{arith}
use lib.ListN.{length, take, length-append}
use lib.Seq.{length-take-le}
use Rattle.hazard.proofs.Search.{none-some}
use Rattle.problem_text.specs.Decimal.{decimal}
use Rattle.problem_text.specs.Form.{newline, cell, transition_lines, Numbers, Form, Formed}
use Rattle.problem_text.specs.Read.{field_by, table_line, Lines, lines, other, Reading, problem}
use Rattle.problem_text.proofs.Numbers.{field-spelled}
use Rattle.problem_text.proofs.Tables.{table-spelled}
use Rattle.problem_text.proofs.Forms.{form_inputs, form_table}

-- What is left after a piece is shorter.
pub shorter-field : (e : ℕ) (text rest : List ℕ) {n : ℕ} → Some (n, rest) ≡ field_by e text → length rest ≤ length text
shorter-field e text rest {n} h = let l = ap length (field-spelled e text (sym h)).is in omega (arith, l, length-append (decimal n) (e ∷ rest))

pub shorter-table : (text rest : List ℕ) {f : List ℕ} → Some (f, rest) ≡ table_line text → length rest ≤ length text
shorter-table text rest {f} h = let l = ap length (table-spelled text (sym h)).is in omega (arith, l, length-append (map cell f) (newline ∷ rest))

module _ (text : List ℕ) where
  pub too_long : 4096 < length text → ¬ Formed text
  too_long h (n, f, ps, s) = omega (arith, h, s.short)

  pub no_inputs : None ≡ field_by newline text → ¬ Formed text
  no_inputs h (n, f, ps, s) = none-some (h ∙ form_inputs s)

  module _ (n : ℕ) (rest : List ℕ) (h : Some (n, rest) ≡ field_by newline text) where
    -- The text of the table and the transitions.
    after_inputs : {m : ℕ} {f : List ℕ} {ps : List (ℕ × ℕ)} → Form text m f ps → rest ≡ map cell f ++ (newline ∷ transition_lines ps)
    after_inputs {m} {f} {ps} s = ap (λ (p : ℕ × List ℕ). p.1) (same_Some (n, rest) (m, map cell f ++ (newline ∷ transition_lines ps)) (h ∙ form_inputs s))

    pub no_table : None ≡ table_line rest → ¬ Formed text
    no_table t (m, f, ps, s) = none-some (t ∙ ap table_line (after_inputs s) ∙ form_table s)

    module _ (g cs : List ℕ) (t : Some (g, cs) ≡ table_line rest) where
      both : {m : ℕ} {f : List ℕ} {ps : List (ℕ × ℕ)} → Form text m f ps → ◌≡◌ {A = List ℕ × List ℕ} (g, cs) (f, transition_lines ps)
      both {m} {f} {ps} s = same_Some (g, cs) (f, transition_lines ps) (t ∙ ap table_line (after_inputs s) ∙ form_table s)

      pub empty_table : length g ≡ 0 → ¬ Formed text
      empty_table e (m, f, ps, s) = let l = ap (λ (p : List ℕ × List ℕ). length p.0) (both s) in omega (arith, e, l, s.filled)

      pub other-lines : ((ps : List (ℕ × ℕ)) → Numbers ps → ¬ (cs ≡ transition_lines ps)) → ¬ Formed text
      other-lines o (m, f, ps, s) = o ps s.numbers (ap (λ (p : List ℕ × List ℕ). p.1) (both s))

      pub whole_form : length text ≤ 4096 → 0 < length g → (ps : List (ℕ × ℕ)) → cs ≡ transition_lines ps → Numbers ps → Form text n g ps
      whole_form l p ps e u =
          let s = field-spelled newline text (sym h) in
          let k = table-spelled rest (sym t) in
          record {
            is = s.is ∙ ap (λ (r : List ℕ). decimal n ++ (newline ∷ r)) (k.is ∙ ap (λ (r : List ℕ). map cell g ++ (newline ∷ r)) e);
            short = l;
            inputs = s.below;
            filled = p;
            values = k.values;
            numbers = u;
          }

pub lines_other : {cs ts : List ℕ} → Lines cs ts None → (ps : List (ℕ × ℕ)) → Numbers ps → ¬ (cs ≡ transition_lines ps)
lines_other (other o) = o

pub reading_whole : (text table : List ℕ) {ts : List ℕ} (n : ℕ) (rest : List ℕ) → Some (n, rest) ≡ field_by newline text → (k : ℕ) (cs : List ℕ) → Some (take k table, cs) ≡ table_line rest
    → length text ≤ 4096 → 0 < k → k ≤ length table → {t : ℕ} → Lines cs ts (Some t) → Reading text table ts (Some (record { inputs = n; table = k; transitions = t }))
reading_whole text table n rest h k cs e l p r (lines ps i u stored few) = problem ps (whole_form text n rest h (take k table) cs e l (omega (arith, p, length-take-le k table r)) ps i u) stored r few
