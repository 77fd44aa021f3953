-- A text is the printed form of one problem at most.
use mathlib.Core.Path.{◌≡◌, refl, sym, ap, ◌∙◌}
use mathlib.Core.List.{List, ◌∷◌, ◌++◌, map}
use Rattle.std.specs.Prelude.{Some}
use Rattle.std.proofs.lemmas.Option.{same_Some}
use Prim.Native.Nat.{ℕ}
use Rattle.problem_text.specs.Form.{newline, cell, transition_lines, Form}
use Rattle.problem_text.specs.Read.{field_by, table_line}
use Rattle.problem_text.proofs.Numbers.{field_read}
use Rattle.problem_text.proofs.Tables.{table_read}
use Rattle.problem_text.proofs.Transitions.{lines_unique}

module _ {text : List ℕ} {n : ℕ} {f : List ℕ} {ps : List (ℕ × ℕ)} (s : Form text n f ps) where
  -- The first line is read, then the second.
  pub form_inputs : field_by newline text ≡ Some (n, map cell f ++ (newline ∷ transition_lines ps))
  form_inputs = ap (field_by newline) s.is ∙ field_read newline n (map cell f ++ (newline ∷ transition_lines ps)) refl s.inputs

  pub form_table : table_line (map cell f ++ (newline ∷ transition_lines ps)) ≡ Some (f, transition_lines ps)
  form_table = table_read f (transition_lines ps) s.values

-- What a text of the form says is unique.
pub form_unique : {text : List ℕ} {n m : ℕ} {f g : List ℕ} {ps qs : List (ℕ × ℕ)} → Form text n f ps → Form text m g qs → (n ≡ m) × (f ≡ g) × (ps ≡ qs)
form_unique {n = n} {m = m} {f = f} {g = g} {ps = ps} {qs = qs} s t =
    let l : ◌≡◌ {A = ℕ × List ℕ} (n, map cell f ++ (newline ∷ transition_lines ps)) (m, map cell g ++ (newline ∷ transition_lines qs)) = same_Some _ _ (sym (form_inputs s) ∙ form_inputs t) in
    let k : ◌≡◌ {A = List ℕ × List ℕ} (f, transition_lines ps) (g, transition_lines qs) = same_Some _ _ (sym (form_table s) ∙ ap table_line (ap (λ (p : ℕ × List ℕ). p.1) l) ∙ form_table t) in
    (ap (λ (p : ℕ × List ℕ). p.0) l, ap (λ (p : List ℕ × List ℕ). p.0) k, lines_unique ps qs s.numbers t.numbers (ap (λ (p : List ℕ × List ℕ). p.1) k))
