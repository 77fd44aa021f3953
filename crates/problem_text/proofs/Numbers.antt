-- Reading a number reads exactly its decimal digits.
use mathlib.Core.Logic.{◌≢◌}
use mathlib.Core.Path.{◌≡◌, refl, sym, ap, subst, ◌∙◌}
use mathlib.Core.Bool.{Bool, true, false, cond, ◌&&◌, ◌||◌}
use mathlib.Core.List.{List, [], ◌∷◌, ◌++◌, append_assoc}
use Rattle.std.specs.Prelude.{Option, None, Some, option_and_then}
use Rattle.std.proofs.lemmas.Option.{same_Some}
use Prim.Native.Nat.{ℕ, zero, suc, ◌+◌, ◌*◌, ◌-◌, ◌/◌, ◌%◌, ◌^◌, ◌≤◌, ◌<◌}
use native.Mathlib.Nat.{pow-suc}
use native.Mathlib.Decide.{dec_lt}
use native.Mathlib.Omega.{arith}
use lib.Dec.{T, eqb, leb, ltb}
use borrow.Author.Tests.{le-leb, leb-true, le-ltb, ltb-false, ne_eqb, eqb-true, eq-eqb, eqb-false}
use Rattle.hazard.proofs.Search.{none-some}
use Rattle.problem_text.specs.Decimal.{digit, spelled, decimal}
use Rattle.std.specs.Char.{is_ascii_digit}
use Rattle.problem_text.specs.Read.{extended, more, number, ended, field_by}
use Rattle.problem_text.proofs.Decimal.{spelled-digit, spelled_last, decimal_digit}

-- The digits have the codes 48 to 57.
pub digit_code : (c : ℕ) → 48 ≤ c → c ≤ 57 → is_ascii_digit c ≡ true
digit_code c a b = rw (le-leb 48 c a, le-leb c 57 b)

pub code_range : (c : ℕ) → is_ascii_digit c ≡ true → (48 ≤ c) × (c ≤ 57)
code_range c e = go (leb 48 c) refl e
  where
    go : (b : Bool) → leb 48 c ≡ b → (b && leb c 57) ≡ true → (48 ≤ c) × (c ≤ 57)
    go true l e = (leb-true 48 c l, leb-true c 57 e)
    go false l e = absurd (subst T (sym e) tt)

-- A digit more, where there may be one.
pub extended-some : (x c : ℕ) → 0 < x → x * 10 + (c - 48) ≤ 65535 → extended x c ≡ Some (x * 10 + (c - 48))
extended-some x c p h = let n : x ≢ 0 = λ e. omega (arith, e) in rw (ne_eqb x 0 n, le-ltb 65535 (x * 10 + (c - 48)) h)

-- And only there.
pub extended_known : (x c y : ℕ) → extended x c ≡ Some y → (0 < x) × (x * 10 + (c - 48) ≤ 65535) × (y ≡ x * 10 + (c - 48))
extended_known x c y e = go (eqb x 0) refl (ltb 65535 (x * 10 + (c - 48))) refl e
  where
    go : (a : Bool) → eqb x 0 ≡ a → (b : Bool) → ltb 65535 (x * 10 + (c - 48)) ≡ b → cond (a || b) None (Some (x * 10 + (c - 48))) ≡ Some y → (0 < x) × (x * 10 + (c - 48) ≤ 65535) × (y ≡ x * 10 + (c - 48))
    go true p b q e = none-some e
    go false p true q e = none-some e
    go false p false q e = (let n : x ≢ 0 = eqb-false x 0 p in omega (arith, n), ltb-false 65535 (x * 10 + (c - 48)) q, sym (same_Some _ _ e))

pub more-digit : (x c : ℕ) (cs : List ℕ) {y : ℕ} → is_ascii_digit c ≡ true → extended x c ≡ Some y → more x (c ∷ cs) ≡ more y cs
more-digit x c cs d e = rw (d, e)

pub more-other : (x c : ℕ) (cs : List ℕ) → is_ascii_digit c ≡ false → more x (c ∷ cs) ≡ Some (x, c ∷ cs)
more-other x c cs d = rw d

digit_read : (k x : ℕ) (cs : List ℕ) → x < 10 → number (spelled (suc k) x ++ cs) ≡ more x cs
digit_read k x cs s = let e : 48 + x - 48 ≡ x = omega arith in rw (spelled-digit k x s, digit_code (48 + x) (omega arith) (omega arith), e)

-- After its digits, a number goes on with what follows them.
spelled_read : (k x : ℕ) (cs : List ℕ) → x < 10 ^ suc k → x < 65536 → number (spelled (suc k) x ++ cs) ≡ more x cs
spelled_read zero x cs h l = digit_read 0 x cs h
spelled_read (suc k) x cs h l =
    elim (dec_lt x 10) [
      | yes s ↦ digit_read (suc k) x cs s
      | no g ↦
          let e = pow-suc 10 (suc k) in
          let d : ℕ = digit (x % 10) in
          let same : x / 10 * 10 + (d - 48) ≡ x = omega arith in
          ap number (ap (λ (s : List ℕ). s ++ cs) (spelled_last (suc k) x (omega arith)) ∙ append_assoc (spelled (suc k) (x / 10)) (d ∷ []) cs)
          ∙ spelled_read k (x / 10) (d ∷ cs) (omega (arith, e)) (omega arith)
          ∙ more-digit (x / 10) d cs (digit_code d (omega arith) (omega arith)) (extended-some (x / 10) d (omega arith) (omega arith) ∙ ap Some same)
    ]

pub decimal_read : (x : ℕ) (cs : List ℕ) → x < 65536 → number (decimal x ++ cs) ≡ more x cs
decimal_read x cs h = spelled_read 4 x cs (omega arith) h

-- What is read is the decimal form of a number, and what is left.
pub record Spelled (cs : List ℕ) (y : ℕ) (rest : List ℕ) : Type 0 where
  pub is : cs ≡ decimal y ++ rest
  pub below : y < 65536

-- The same, if the number x stands before the text that is read.
abbrev After : ℕ → List ℕ → ℕ → List ℕ → Type 0
After x cs y rest = Spelled (decimal x ++ cs) y rest

spelled_here : (x : ℕ) (cs : List ℕ) {y : ℕ} {rest : List ℕ} → x < 65536 → ◌≡◌ {A = Option (ℕ × List ℕ)} (Some (x, cs)) (Some (y, rest)) → After x cs y rest
spelled_here x cs {y} {rest} h e =
    let p : ◌≡◌ {A = ℕ × List ℕ} (x, cs) (y, rest) = same_Some _ _ e in
    let q : x ≡ y = ap (λ (p : ℕ × List ℕ). p.0) p in
    let r : cs ≡ rest = ap (λ (p : ℕ × List ℕ). p.1) p in
    record { is = rw (q, r); below = omega arith }

spelled-digits : (x c : ℕ) (cs : List ℕ) {z y : ℕ} {rest : List ℕ} → is_ascii_digit c ≡ true → extended x c ≡ Some z → After z cs y rest → After x (c ∷ cs) y rest
spelled-digits x c cs {z} d q s =
    let k = extended_known x c z q in
    let r = code_range c d in
    let code : digit (c - 48) ≡ c = omega (arith, r.0) in
    let l : decimal z ≡ decimal x ++ (c ∷ []) = rw k.2 (decimal_digit x (c - 48) k.0 (omega (arith, k.1)) (omega (arith, r.1)) ∙ ap (λ (a : ℕ). decimal x ++ (a ∷ [])) code) in
    record { is = sym (append_assoc (decimal x) (c ∷ []) cs) ∙ ap (λ (a : List ℕ). a ++ cs) (sym l) ∙ s.is; below = s.below }

-- What is found in something was found after that.
pub then_known : {A B : Type 0} (o : Option A) (f : A → Option B) {b : B} → option_and_then f o ≡ Some b → (a : A) × (o ≡ Some a) × (f a ≡ Some b)
then_known None f h = none-some h
then_known (Some a) f h = (a, refl, h)

more-spelled : (x : ℕ) (cs : List ℕ) {y : ℕ} {rest : List ℕ} → x < 65536 → more x cs ≡ Some (y, rest) → After x cs y rest
more-spelled x [] h e = spelled_here x [] h e
more-spelled x (c ∷ cs) {y} {rest} h e = go (is_ascii_digit c) refl (λ d z q m. spelled-digits x c cs d q (more-spelled z cs (omega (arith, extended_known x c z q)) m)) e
  where
    go : (b : Bool) → is_ascii_digit c ≡ b → (is_ascii_digit c ≡ true → (z : ℕ) → extended x c ≡ Some z → more z cs ≡ Some (y, rest) → After x (c ∷ cs) y rest)
        → cond b (option_and_then (λ y. more y cs) (extended x c)) (Some (x, c ∷ cs)) ≡ Some (y, rest) → After x (c ∷ cs) y rest
    go false d f e = spelled_here x (c ∷ cs) h e
    go true d f e = let (z, q, m) = then_known (extended x c) (λ y. more y cs) e in f d z q m

pub number_spelled : (cs : List ℕ) {y : ℕ} {rest : List ℕ} → number cs ≡ Some (y, rest) → Spelled cs y rest
number_spelled [] e = none-some e
number_spelled (c ∷ cs) {y} {rest} e = go (is_ascii_digit c) refl e
  where
    go : (b : Bool) → is_ascii_digit c ≡ b → cond b (more (c - 48) cs) None ≡ Some (y, rest) → Spelled (c ∷ cs) y rest
    go false d e = none-some e
    go true d e =
        let r = code_range c d in
        let code : digit (c - 48) ≡ c = omega (arith, r.0) in
        let s = more-spelled (c - 48) cs (omega (arith, r.1)) e in
        record { is = ap (λ (a : ℕ). a ∷ cs) (sym code) ∙ ap (λ (a : List ℕ). a ++ cs) (sym (spelled-digit 4 (c - 48) (omega (arith, r.1)))) ∙ s.is; below = s.below }

-- A number and the byte that ends it are read back.
pub field_read : (e x : ℕ) (cs : List ℕ) → is_ascii_digit e ≡ false → x < 65536 → field_by e (decimal x ++ (e ∷ cs)) ≡ Some (x, cs)
field_read e x cs d h =
    ap (option_and_then (λ (p : ℕ × List ℕ). ended e p.0 p.1)) (decimal_read x (e ∷ cs) h ∙ more-other x e cs d) ∙ rw (eq-eqb e e refl)

ended_known : (e x : ℕ) (cs : List ℕ) {y : ℕ} {rest : List ℕ} → ended e x cs ≡ Some (y, rest) → (x ≡ y) × (cs ≡ e ∷ rest)
ended_known e x [] h = none-some h
ended_known e x (c ∷ cs) {y} {rest} h = go (eqb c e) refl h
  where
    go : (b : Bool) → eqb c e ≡ b → cond {A = Option (ℕ × List ℕ)} b (Some (x, cs)) None ≡ Some (y, rest) → (x ≡ y) × (c ∷ cs ≡ e ∷ rest)
    go false b h = none-some h
    go true b h =
        let p : ◌≡◌ {A = ℕ × List ℕ} (x, cs) (y, rest) = same_Some _ _ h in
        let r : cs ≡ rest = ap (λ (p : ℕ × List ℕ). p.1) p in
        (ap (λ (p : ℕ × List ℕ). p.0) p, rw (eqb-true c e b, r))

-- And nothing else is.
pub field-spelled : (e : ℕ) (cs : List ℕ) {y : ℕ} {rest : List ℕ} → field_by e cs ≡ Some (y, rest) → Spelled cs y (e ∷ rest)
field-spelled e cs {y} {rest} h =
    let (p, q, r) = then_known (number cs) (λ p. ended e p.0 p.1) h in
    let s = number_spelled cs q in
    let (i, j) = ended_known e p.0 p.1 r in
    record { is = s.is ∙ rw (i, j); below = omega (arith, s.below) }
