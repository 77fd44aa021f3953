-- Points and cubes by their inputs. An input past the end of a digit list is free.
use mathlib.Core.Path.{◌≡◌, refl, sym, ap, ◌∙◌}
use mathlib.Core.Logic.{◌≢◌}
use mathlib.Core.List.{[], ◌∷◌}
use Prim.Native.Nat.{ℕ, zero, suc, ◌+◌, ◌-◌, ◌*◌, ◌/◌, ◌%◌, ◌^◌, ◌≤◌, ◌<◌}
use native.Mathlib.Nat.{not-suc-le-zero, le_of_suc-le-suc, div-one, div-eq_of_lt, div-div-eq-div-mul, mod-lt, pow-suc, mul_comm}
use native.Mathlib.Omega.{arith}
use native.Mathlib.Decide.{ℕ_discrete, dec_lt}
use lib.Dec.{T, eqb, eqb→eq}
use lib.ListN.{length, get_or, get_or-eq_default}
use Rattle.hazard.specs.Cube.{Cube, bit, flip, over, has, span, inside}
use Rattle.hazard.proofs.Test.{tests, cond_yes, cond_no, eqb_of}
use Rattle.hazard.proofs.Cube.{Digits, nil, cons, has→, →has, inside→, →inside, inside-has, span-digits, span_left, span_right, span_least}

-- Bits and digits.
pub bit-zero : (x : ℕ) → bit x 0 ≡ x % 2
bit-zero x = rw div-one

pub bit-suc : (x i : ℕ) → bit x (suc i) ≡ bit (x / 2) i
bit-suc x i = rw (div-div-eq-div-mul, pow-suc, mul_comm 2 (2 ^ i))

pub bit-lt : (x i : ℕ) → bit x i < 2
bit-lt x i = mod-lt (x / 2 ^ i) (omega arith)

-- A point is known by its inputs.
pub bits-same : (n x y : ℕ) → x < 2 ^ n → y < 2 ^ n → ((i : ℕ) → i < n → bit x i ≡ bit y i) → x ≡ y
bits-same zero x y l m h = omega arith
bits-same (suc n) x y l m h =
    let p = pow-suc 2 n in
    let low : x % 2 ≡ y % 2 = sym (bit-zero x) ∙ h 0 (omega arith) ∙ bit-zero y in
    let high = bits-same n (x / 2) (y / 2) (omega arith) (omega arith) (λ i k. sym (bit-suc x i) ∙ h (suc i) (omega arith) ∙ bit-suc y i) in
    omega arith

abbrev pub dig : Cube → ℕ → ℕ
dig c i = get_or c i 2

pub digits-length : {n : ℕ} {c : Cube} → Digits n c → length c ≡ n
digits-length nil = refl
digits-length (cons h w) = ap suc (digits-length w)

pub dig_small : {n : ℕ} {c : Cube} → Digits n c → (i : ℕ) → dig c i ≤ 2
dig_small nil i = omega arith
dig_small (cons h w) zero = h
dig_small (cons h w) (suc i) = dig_small w i

-- An input with a literal is one of the n.
pub dig_short : {n : ℕ} {c : Cube} → Digits n c → {i : ℕ} → dig c i ≢ 2 → i < n
dig_short {n} {c} w {i} ne = elim (dec_lt i n) [ yes l ↦ l | no l ↦ absurd (ne (get_or-eq_default c 2 (omega (arith, digits-length w)))) ]

-- The literals of c have the values v.
abbrev pub Agrees : Cube → (ℕ → ℕ) → Type 0
Agrees c v = (i : ℕ) → dig c i ≢ 2 → dig c i ≡ v i

pub has_e : (c : Cube) (x : ℕ) → T (has c x) → Agrees c (bit x)
has_e [] x t i ne = absurd (ne refl)
has_e (d ∷ ds) x t zero ne = sym ((simp tests at t).0 ne) ∙ sym (bit-zero x)
has_e (d ∷ ds) x t (suc i) ne = has_e ds (x / 2) (simp tests at t).1 i ne ∙ sym (bit-suc x i)

pub has_i : (c : Cube) (x : ℕ) → Agrees c (bit x) → T (has c x)
has_i [] x h = tt
has_i (d ∷ ds) x h = simp tests (λ ne. sym (h 0 ne ∙ bit-zero x), has_i ds (x / 2) (λ i ne. h (suc i) ne ∙ bit-suc x i))

-- [P,Q], input by input.
span_dig : (n p q i : ℕ) → i < n → dig (span n p q) i ≡ over (bit p i) (bit q i)
span_dig zero p q i h = absurd (not-suc-le-zero h)
span_dig (suc n) p q zero h = rw (div-one p, div-one q)
span_dig (suc n) p q (suc i) h = rw (bit-suc p i, bit-suc q i) (span_dig n (p / 2) (q / 2) i (le_of_suc-le-suc h))

span_same : (n p q i : ℕ) → i < n → bit p i ≡ bit q i → dig (span n p q) i ≡ bit p i
span_same n p q i h e = span_dig n p q i h ∙ cond_yes (eqb (bit p i) (bit q i)) (bit p i) 2 (eqb_of e)

span_lit : (n p q i : ℕ) → dig (span n p q) i ≢ 2 → (i < n) × (bit p i ≡ bit q i) × (dig (span n p q) i ≡ bit p i)
span_lit n p q i ne = elim (ℕ_discrete (bit p i) (bit q i)) [
  | yes e ↦ (l, e, span_same n p q i l e)
  | no u ↦ absurd (ne (span_dig n p q i l ∙ cond_no (eqb (bit p i) (bit q i)) (bit p i) 2 (λ t. u (eqb→eq (bit p i) (bit q i) t))))
]
  where
    l : i < n
    l = dig_short (span-digits n p q) ne

-- x agrees with p on every input where p and q agree.
abbrev pub In : ℕ → ℕ → ℕ → ℕ → Type 0
In n p q x = (i : ℕ) → i < n → bit p i ≡ bit q i → bit p i ≡ bit x i

pub in_e : (n p q x : ℕ) → T (has (span n p q) x) → In n p q x
in_e n p q x t i h e = sym (span_same n p q i h e) ∙ has_e (span n p q) x t i (λ z. omega (arith, span_same n p q i h e, bit-lt p i))

pub in_i : (n p q x : ℕ) → In n p q x → T (has (span n p q) x)
in_i n p q x h = has_i (span n p q) x (λ i ne. let r = span_lit n p q i ne in r.2 ∙ h i r.0 r.1)

pub in_swap : (n p q x : ℕ) → In n p q x → In n q p x
in_swap n p q x h i l e = e ∙ h i l (sym e)

-- [P,Q] is [Q,P].
pub span_swap : (n a b x : ℕ) → T (has (span n a b) x) → T (has (span n b a) x)
span_swap n a b x t = in_i n b a x (in_swap n a b x (in_e n a b x t))

-- [P,P] is the point P alone.
pub span_self : (n p x : ℕ) → p < 2 ^ n → x < 2 ^ n → T (has (span n p p) x) → p ≡ x
span_self n p x l m t = bits-same n p x l m (λ i b. in_e n p p x t i b refl)

-- A cube contains [P,Q] exactly if it contains P and Q, and then every point between.
pub ends_e : (n p q : ℕ) (c : Cube) → T (inside (span n p q) c) → T (has c p) × T (has c q)
ends_e n p q c t = (→has (inside-has (inside→ (span n p q) c t) (span_left n p q)), →has (inside-has (inside→ (span n p q) c t) (span_right n p q)))

pub ends_i : (n p q : ℕ) {c : Cube} → Digits n c → T (has c p) → T (has c q) → T (inside (span n p q) c)
ends_i n p q {c} w t u = →inside (span_least w (has→ c p t) (has→ c q u))

pub between : (n p q x : ℕ) {c : Cube} → Digits n c → T (has c p) → T (has c q) → In n p q x → T (has c x)
between n p q x {c} w t u h = →has (inside-has (inside→ (span n p q) c (ends_i n p q w t u)) (has→ (span n p q) x (in_i n p q x h)))

-- The point of n inputs with the values g.
pub point : ℕ → (ℕ → ℕ) → ℕ
point zero g = 0
point (suc n) g = g 0 + 2 * point n (λ i. g (suc i))

pub point-lt : (n : ℕ) (g : ℕ → ℕ) → ((i : ℕ) → g i < 2) → point n g < 2 ^ n
unfolding point
point-lt zero g h = omega arith
point-lt (suc n) g h = rw pow-suc (omega (arith, h 0, point-lt n (λ i. g (suc i)) (λ i. h (suc i))))

pub bit-point : (n : ℕ) (g : ℕ → ℕ) → ((i : ℕ) → g i < 2) → (i : ℕ) → i < n → bit (point n g) i ≡ g i
unfolding point
bit-point zero g h i l = absurd (not-suc-le-zero l)
bit-point (suc n) g h zero l = bit-zero (point (suc n) g) ∙ omega (arith, h 0)
bit-point (suc n) g h (suc i) l = bit-suc (point (suc n) g) i ∙ ap (λ (x : ℕ). bit x i) half ∙ bit-point n (λ i. g (suc i)) (λ i. h (suc i)) i (le_of_suc-le-suc l)
  where
    half : point (suc n) g / 2 ≡ point n (λ i. g (suc i))
    half = omega (arith, h 0)

-- A move changes one input.
pub flip_up : (x i : ℕ) → bit x i ≡ 0 → flip x i ≡ x + 2 ^ i
flip_up x i e = cond_yes (eqb (bit x i) 0) (x + 2 ^ i) (x - 2 ^ i) (eqb_of e)

pub flip_down : (x i : ℕ) → bit x i ≢ 0 → (flip x i ≡ x - 2 ^ i) × (2 ^ i ≤ x)
flip_down x i ne =
    (cond_no (eqb (bit x i) 0) (x + 2 ^ i) (x - 2 ^ i) (λ t. ne (eqb→eq (bit x i) 0 t)), elim (dec_lt x (2 ^ i)) [ no l ↦ omega arith | yes l ↦ absurd (ne (rw (div-eq_of_lt l))) ])

flip_low : (x : ℕ) → (flip x 0 % 2 ≡ 1 - x % 2) × (flip x 0 / 2 ≡ x / 2)
flip_low x = elim (ℕ_discrete (bit x 0) 0) [ yes e ↦ let f = flip_up x 0 e in let z = bit-zero x in (omega arith, omega arith) | no ne ↦ let f = flip_down x 0 ne in let z = bit-zero x in (omega arith, omega arith) ]

flip_high : (x i : ℕ) → (flip x (suc i) % 2 ≡ x % 2) × (flip x (suc i) / 2 ≡ flip (x / 2) i)
flip_high x i =
    elim (ℕ_discrete (bit x (suc i)) 0) [
      | yes e ↦ let f = flip_up x (suc i) e in let g = flip_up (x / 2) i (sym (bit-suc x i) ∙ e) in let z = pow-suc 2 i in (omega arith, omega arith)
      | no ne ↦ let f = flip_down x (suc i) ne in let g = flip_down (x / 2) i (λ e. ne (bit-suc x i ∙ e)) in let z = pow-suc 2 i in (omega arith, omega arith)
    ]

pub flip-same : (x i : ℕ) → bit (flip x i) i ≡ 1 - bit x i
flip-same x zero = bit-zero (flip x 0) ∙ (flip_low x).0 ∙ ap (λ (y : ℕ). 1 - y) (sym (bit-zero x))
flip-same x (suc i) = bit-suc (flip x (suc i)) i ∙ ap (λ (y : ℕ). bit y i) (flip_high x i).1 ∙ flip-same (x / 2) i ∙ ap (λ (y : ℕ). 1 - y) (sym (bit-suc x i))

pub flip-other : (x i j : ℕ) → i ≢ j → bit (flip x i) j ≡ bit x j
flip-other x zero zero ne = absurd (ne refl)
flip-other x zero (suc j) ne = bit-suc (flip x 0) j ∙ ap (λ (y : ℕ). bit y j) (flip_low x).1 ∙ sym (bit-suc x j)
flip-other x (suc i) zero ne = bit-zero (flip x (suc i)) ∙ (flip_high x i).0 ∙ sym (bit-zero x)
flip-other x (suc i) (suc j) ne = bit-suc (flip x (suc i)) j ∙ ap (λ (y : ℕ). bit y j) (flip_high x i).1 ∙ flip-other (x / 2) i j (λ e. ne (ap suc e)) ∙ sym (bit-suc x j)

pub flip-lt : (n x i : ℕ) → x < 2 ^ n → i < n → flip x i < 2 ^ n
flip-lt zero x i h l = absurd (not-suc-le-zero l)
flip-lt (suc n) x zero h l = omega (arith, (flip_low x).1, pow-suc 2 n)
flip-lt (suc n) x (suc i) h l = omega (arith, (flip_high x i).1, pow-suc 2 n, flip-lt n (x / 2) i (omega (arith, pow-suc 2 n)) (le_of_suc-le-suc l))

-- Moving an input twice moves nothing.
pub flip_back : (x i : ℕ) → flip (flip x i) i ≡ x
flip_back x i = elim (ℕ_discrete (bit x i) 0) [
  | yes e ↦ let f = flip_up x i e in let g = flip_down (flip x i) i (λ z. omega (arith, flip-same x i)) in omega arith
  | no ne ↦ let f = flip_down x i ne in let g = flip_up (flip x i) i (omega (arith, flip-same x i, bit-lt x i)) in omega arith
]
