-- Reading the table's line reads exactly its printed form.
use mathlib.Core.Path.{◌≡◌, refl, ap, ap₂, subst, ◌∙◌}
use mathlib.Core.Bool.{Bool, true, false, cond}
use mathlib.Core.List.{List, [], ◌∷◌, ◌++◌, map}
use Rattle.std.specs.Prelude.{Option, None, Some, option_and_then}
use Rattle.std.proofs.lemmas.Option.{same_Some}
use Prim.Native.Nat.{ℕ, zero, suc, ◌≤◌}
use native.Mathlib.Omega.{arith}
use lib.Dec.{eqb}
use borrow.Author.Tests.{eqb-true}
use Rattle.hazard.proofs.Search.{none-some}
use Rattle.problem_text.specs.Form.{newline, cell, Values}
use Rattle.problem_text.specs.Read.{value_of, table_line}
use Rattle.problem_text.proofs.Numbers.{then_known}

-- A value's character stands for the value, and is no newline.
value_cell : (d : ℕ) → d ≤ 2 → value_of (cell d) ≡ Some d
value_cell zero h = refl
value_cell (suc zero) h = refl
value_cell (suc (suc zero)) h = refl
value_cell (suc (suc (suc d))) h = absurd (omega (arith, h))

cell-inside : (d : ℕ) → eqb (cell d) newline ≡ false
cell-inside zero = refl
cell-inside (suc zero) = refl
cell-inside (suc (suc d)) = refl

-- And no other character stands for one.
pub value_known : (c : ℕ) {d : ℕ} → value_of c ≡ Some d → (c ≡ cell d) × (d ≤ 2)
value_known c {d} e = zero? (eqb c 48) refl e
  where
    found : (v : ℕ) → v ≤ 2 → c ≡ cell v → ◌≡◌ {A = Option ℕ} (Some v) (Some d) → (c ≡ cell d) × (d ≤ 2)
    found v h k e = let i : v ≡ d = same_Some v d e in (k ∙ ap cell i, omega arith)

    two? : (b : Bool) → eqb c 45 ≡ b → cond b (Some 2) None ≡ Some d → (c ≡ cell d) × (d ≤ 2)
    two? true k e = found 2 (omega arith) (eqb-true c 45 k) e
    two? false k e = none-some e

    one? : (b : Bool) → eqb c 49 ≡ b → cond b (Some 1) (cond (eqb c 45) (Some 2) None) ≡ Some d → (c ≡ cell d) × (d ≤ 2)
    one? true k e = found 1 (omega arith) (eqb-true c 49 k) e
    one? false k e = two? (eqb c 45) refl e

    zero? : (b : Bool) → eqb c 48 ≡ b → cond b (Some 0) (cond (eqb c 49) (Some 1) (cond (eqb c 45) (Some 2) None)) ≡ Some d → (c ≡ cell d) × (d ≤ 2)
    zero? true k e = found 0 (omega arith) (eqb-true c 48 k) e
    zero? false k e = one? (eqb c 49) refl e

-- A value more before the others.
abbrev pub prefixed : List ℕ → Option (List ℕ × List ℕ) → Option (List ℕ × List ℕ)
prefixed g o = option_and_then (λ p. Some (g ++ p.0, p.1)) o

pub table-value : (c : ℕ) (cs : List ℕ) {d : ℕ} → eqb c newline ≡ false → value_of c ≡ Some d → table_line (c ∷ cs) ≡ prefixed (d ∷ []) (table_line cs)
table-value c cs e v = rw (e, v)

pub table_read : (f rest : List ℕ) → Values f → table_line (map cell f ++ (newline ∷ rest)) ≡ Some (f, rest)
table_read [] rest h = refl
table_read (d ∷ f) rest h = table-value (cell d) (map cell f ++ (newline ∷ rest)) (cell-inside d) (value_cell d (h 0)) ∙ ap (prefixed (d ∷ [])) (table_read f rest (λ x. h (suc x)))

-- The text begins with the line of the table f.
pub record Table (cs f rest : List ℕ) : Type 0 where
  pub is : cs ≡ map cell f ++ (newline ∷ rest)
  pub values : Values f

pub values-cons : (d : ℕ) (f : List ℕ) → d ≤ 2 → Values f → Values (d ∷ f)
values-cons d f h t zero = h
values-cons d f h t (suc x) = t x

-- The same table and rest, by equations.
table_same : {cs f rest : List ℕ} (p : List ℕ × List ℕ) → cs ≡ map cell p.0 ++ (newline ∷ p.1) → Values p.0 → ◌≡◌ {A = Option (List ℕ × List ℕ)} (Some p) (Some (f, rest)) → Table cs f rest
table_same {f = f} {rest = rest} p i v e =
    let l : ◌≡◌ {A = List ℕ × List ℕ} p (f, rest) = same_Some _ _ e in
    record { is = i ∙ ap (λ (p : List ℕ × List ℕ). map cell p.0 ++ (newline ∷ p.1)) l; values = subst Values (ap (λ (p : List ℕ × List ℕ). p.0) l) v }

pub table-spelled : (cs : List ℕ) {f rest : List ℕ} → table_line cs ≡ Some (f, rest) → Table cs f rest
table-spelled [] e = none-some e
table-spelled (c ∷ cs) {f} {rest} e = go (eqb c newline) refl (λ (p : List ℕ × List ℕ) (m : table_line cs ≡ Some p). table-spelled cs m) e
  where
    go : (b : Bool) → eqb c newline ≡ b → ((p : List ℕ × List ℕ) → table_line cs ≡ Some p → Table cs p.0 p.1)
        → cond {A = Option (List ℕ × List ℕ)} b (Some ([], cs)) (option_and_then (λ d. option_and_then (λ p. Some (d ∷ p.0, p.1)) (table_line cs)) (value_of c)) ≡ Some (f, rest) → Table (c ∷ cs) f rest
    go true b t e = table_same ([], cs) (ap (λ (c : ℕ). c ∷ cs) (eqb-true c newline b)) (λ x. omega arith) e
    go false b t e =
        let (d, v, m) = then_known (value_of c) (λ d. option_and_then (λ p. Some (d ∷ p.0, p.1)) (table_line cs)) e in
        let (p, q, r) = then_known (table_line cs) (λ p. Some (d ∷ p.0, p.1)) m in
        let w = value_known c v in
        table_same (d ∷ p.0, p.1) (ap₂ (λ (c : ℕ) (l : List ℕ). c ∷ l) w.0 (t p q).is) (values-cons d p.0 w.1 (t p q).values) r
