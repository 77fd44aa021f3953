-- The next point of a cube: the 1 that is added to `x | care` carries over the literals.
use mathlib.Core.Path.{◌≡◌, refl, sym, ap, ◌∙◌}
use mathlib.Core.Logic.{◌≢◌}
use Prim.Native.Nat.{ℕ, zero, suc, ◌+◌, ◌*◌, ◌/◌, ◌%◌, ◌^◌, ◌≤◌, ◌<◌, max}
use native.Mathlib.Nat.{pow-suc, mod-lt}
use native.Mathlib.Omega.{arith}
use native.Mathlib.Decide.{ℕ_discrete}
use lib.Dec.{T}
use lib.Arith.{lt-one}
use lib.Bits.{bit_and, bit_or, bit_xor, or_step, and_zero_r}
use Rattle.hazard.specs.Cube.{has}
use Rattle.hazard.proofs.Digit.{Fits, top, same}
use Rattle.hazard.proofs.Cube.{Has, cons, has→, →has}
use Rattle.cube.specs.Mask.{digit, digits_of}
use Rattle.cube.specs.Next.{Next}
use Rattle.cube.proofs.Bits.{bit_case3, halves, lasts, half_lt, by_digits, and_half, and_last}

-- y with the literals put in.
abbrev pub put : ℕ → ℕ → ℕ → ℕ
put care value y = bit_or (bit_xor y (bit_and y care)) value

abbrev pub after : ℕ → ℕ → ℕ → ℕ
after care value x = put care value (bit_or x care + 1)

-- What is clean is clean in its last bit and in the rest.
clean_half : (care value : ℕ) → bit_and value care ≡ value → bit_and (value / 2) (care / 2) ≡ value / 2
clean_half care value e = sym (and_half value care) ∙ ap (λ (a : ℕ). a / 2) e

clean_last : (care value : ℕ) → bit_and value care ≡ value → bit_and (value % 2) (care % 2) ≡ value % 2
clean_last care value e = sym (and_last value care) ∙ ap (λ (a : ℕ). a % 2) e

one-fits : (x v : ℕ) → Fits x (digit 1 v) → v < 2 → x ≡ v
one-fits x v (top e) h = absurd (omega arith)
one-fits x v (same e) h = e

-- The literals put into a point of the cube, with its literals all 1, give the point.
put_last : (c v x : ℕ) → bit_and (v % 2) (c % 2) ≡ v % 2 → Fits (x % 2) (digit (c % 2) (v % 2)) → put (c % 2) (v % 2) (bit_or (x % 2) (c % 2)) ≡ x % 2
put_last =
    bit_case3 (λ c v x. bit_and v c ≡ v → Fits x (digit c v) → put c v (bit_or x c) ≡ x)
    (λ e f. refl) (λ e f. refl) (λ e f. absurd (omega (arith, e))) (λ e f. refl)
    (λ e f. refl) (λ e f. absurd (omega (arith, one-fits 1 0 f (omega arith)))) (λ e f. absurd (omega (arith, one-fits 0 1 f (omega arith)))) (λ e f. refl)

put_own : (n care value x : ℕ) → care < 2 ^ n → bit_and value care ≡ value → x < 2 ^ n → Has (digits_of n care value) x → put care value (bit_or x care) ≡ x
put_own zero care value x h e l t =
    let p : care ≡ 0 = lt-one h in
    let q : x ≡ 0 = lt-one l in
    let r : value ≡ 0 = sym e ∙ ap (bit_and value) p ∙ and_zero_r value in
    rw (p, q, r)
put_own (suc n) care value x h e l (cons f t) =
    by_digits
    (simp halves (put_own n (care / 2) (value / 2) (x / 2) (half_lt care n h) (clean_half care value e) (half_lt x n l) t))
    (simp lasts (put_last care value x (clean_last care value e) f))

-- Where the last bit of x or of care is 1, the 1 is carried on.
module _ (care value x : ℕ) (e : bit_and value care ≡ value) (carry : max (x % 2) (care % 2) ≡ 1) where
  rest_half : (bit_or x care + 1) / 2 ≡ bit_or (x / 2) (care / 2) + 1
  rest_half = omega (arith, or_step x care)

  rest_last : (bit_or x care + 1) % 2 ≡ 0
  rest_last = omega (arith, or_step x care)

  after_half : after care value x / 2 ≡ after (care / 2) (value / 2) (x / 2)
  after_half = simp halves (ap (put (care / 2) (value / 2)) rest_half)

  after_last : after care value x % 2 ≡ value % 2
  after_last = simp lasts (rw rest_last (bit_case3 (λ c v x. bit_and v c ≡ v → put c v 0 ≡ v) (λ e. refl) (λ e. refl) (λ e. refl) (λ e. refl) (λ e. refl) (λ e. refl) (λ e. refl) (λ e. refl) care value x (clean_last care value e)))

-- What comes next, by the relation.
record After (n care value x y : ℕ) : Type 0 where
  later : x < y
  gap : (z : ℕ) → x < z → z < y → z < 2 ^ n → ¬ Has (digits_of n care value) z
  here : y < 2 ^ n → Has (digits_of n care value) y

-- The last bit of a point and of the value agree, where there is a literal.
agree : (care value : ℕ) {b : ℕ} → care % 2 ≡ 1 → Fits b (digit (care % 2) (value % 2)) → b ≡ value % 2
agree care value {b} k f = one-fits b (value % 2) (rw k at f) (mod-lt value (omega arith))

free : (care value b : ℕ) → care % 2 ≡ 0 → Fits b (digit (care % 2) (value % 2))
free care value b k = top (rw k)

-- One input more: the point after is the rest's, with the last bit of the value.
carried : (n care value x up : ℕ) → x < value % 2 + 2 * up → Fits (value % 2) (digit (care % 2) (value % 2))
    → ((z : ℕ) → x < z → z < value % 2 + 2 * up → Fits (z % 2) (digit (care % 2) (value % 2)) → (x / 2 < z / 2) × (z / 2 < up))
    → After n (care / 2) (value / 2) (x / 2) up → After (suc n) care value x (value % 2 + 2 * up)
carried n care value x up g u s r =
    record {
      later = g;
      gap = λ z a b c t. past z a b c t;
      here = λ b. let p : (value % 2 + 2 * up) % 2 ≡ value % 2 = omega arith in let q : (value % 2 + 2 * up) / 2 ≡ up = omega arith in
          cons {d = digit (care % 2) (value % 2)} {x = value % 2 + 2 * up} {ds = digits_of n (care / 2) (value / 2)} (rw p u) (rw q (r.here (omega (arith, pow-suc 2 n))));
    }
  where
    past : (z : ℕ) → x < z → z < value % 2 + 2 * up → z < 2 ^ suc n → ¬ Has (digits_of (suc n) care value) z
    past z a b c (cons k v) = let (i, j) = s z a b k in r.gap (z / 2) i j (half_lt z n c) v

follow : (n care value x : ℕ) → care < 2 ^ n → bit_and value care ≡ value → x < 2 ^ n → Has (digits_of n care value) x → After n care value x (after care value x)
follow zero care value x h e l t =
    let p : care ≡ 0 = lt-one h in
    let q : x ≡ 0 = lt-one l in
    let r : value ≡ 0 = sym e ∙ ap (bit_and value) p ∙ and_zero_r value in
    rw (p, q, r) (record { later = omega arith; gap = λ z a b c. absurd (omega arith); here = λ u. absurd (omega arith) })
follow (suc n) care value x h e l (cons f t) =
    go (ℕ_discrete (care % 2) 1) (ℕ_discrete (x % 2) 1) (follow n (care / 2) (value / 2) (x / 2) (half_lt care n h) (clean_half care value e) (half_lt x n l) t)
  where
    whole : max (x % 2) (care % 2) ≡ 1 → after care value x ≡ value % 2 + 2 * after (care / 2) (value / 2) (x / 2)
    whole m = omega (arith, after_half care value x e m, after_last care value x e m)

    -- Without a literal the value's bit is 0.
    zero-value : care % 2 ≢ 1 → value % 2 ≡ 0
    zero-value k =
        let c : care % 2 ≡ 0 = omega arith in
        sym (clean_last care value e) ∙ ap (bit_and (value % 2)) c ∙ and_zero_r (value % 2)

    go : Dec (care % 2 ≡ 1) → Dec (x % 2 ≡ 1) → After n (care / 2) (value / 2) (x / 2) (after (care / 2) (value / 2) (x / 2)) → After (suc n) care value x (after care value x)
    go (yes k) b r =
        let q = agree care value k f in
        let m : max (x % 2) (care % 2) ≡ 1 = omega arith in
        rw (whole m) (carried n care value x (after (care / 2) (value / 2) (x / 2)) (omega (arith, r.later)) (rw k (same refl)) (λ z a b g. let w = agree care value k g in (omega arith, omega arith)) r)
    go (no k) (yes b) r =
        let c : care % 2 ≡ 0 = omega arith in
        let v = zero-value k in
        let m : max (x % 2) (care % 2) ≡ 1 = omega arith in
        rw (whole m) (carried n care value x (after (care / 2) (value / 2) (x / 2)) (omega (arith, r.later)) (free care value (value % 2) c) (λ z a b g. (omega arith, omega arith)) r)
    go (no k) (no b) r =
        let c : care % 2 ≡ 0 = omega arith in
        let d : x % 2 ≡ 0 = omega arith in
        let w : after care value x ≡ x + 1 = next_one c d in
        rw w (record {
          later = omega arith;
          gap = λ z a b i. absurd (omega arith);
          here = λ b. let q : (x + 1) / 2 ≡ x / 2 = omega arith in cons {d = digit (care % 2) (value % 2)} {x = x + 1} {ds = digits_of n (care / 2) (value / 2)} (free care value ((x + 1) % 2) c) (rw q t);
        })
      where
        next_one : care % 2 ≡ 0 → x % 2 ≡ 0 → after care value x ≡ x + 1
        next_one c d =
            let y2 : (bit_or x care + 1) / 2 ≡ bit_or (x / 2) (care / 2) = omega (arith, or_step x care) in
            let y1 : (bit_or x care + 1) % 2 ≡ 1 = omega (arith, or_step x care) in
            by_digits
            (simp halves (ap (put (care / 2) (value / 2)) y2 ∙ put_own n (care / 2) (value / 2) (x / 2) (half_lt care n h) (clean_half care value e) (half_lt x n l) t ∙ omega arith))
            (simp lasts (rw (y1, c, zero-value k) (omega arith)))

pub next_is : (n care value x : ℕ) → care < 2 ^ n → bit_and value care ≡ value → x < 2 ^ n → T (has (digits_of n care value) x) → Next n (digits_of n care value) x (after care value x)
next_is n care value x h e l t =
    let r = follow n care value x h e l (has→ (digits_of n care value) x t) in
    record { later = r.later; gap = λ z a b c u. r.gap z a b c (has→ (digits_of n care value) z u); in' = λ b. →has (r.here b) }

-- A point of a clean cube is not below its value mask.
value_low : (c v x : ℕ) → bit_and (v % 2) (c % 2) ≡ v % 2 → Fits (x % 2) (digit (c % 2) (v % 2)) → v % 2 ≤ x % 2
value_low =
    bit_case3 (λ c v x. bit_and v c ≡ v → Fits x (digit c v) → v ≤ x)
    (λ e f. omega arith) (λ e f. omega arith) (λ e f. absurd (omega (arith, e))) (λ e f. omega arith)
    (λ e f. omega arith) (λ e f. omega arith) (λ e f. absurd (omega (arith, one-fits 0 1 f (omega arith)))) (λ e f. omega arith)

value_below : (n care value x : ℕ) → care < 2 ^ n → bit_and value care ≡ value → Has (digits_of n care value) x → value ≤ x
value_below zero care value x h e t =
    let p : care ≡ 0 = lt-one h in
    let r : value ≡ 0 = sym e ∙ ap (bit_and value) p ∙ and_zero_r value in
    omega arith
value_below (suc n) care value x h e (cons f t) =
    omega (arith, value_below n (care / 2) (value / 2) (x / 2) (half_lt care n h) (clean_half care value e) t, value_low care value x (clean_last care value e) f)

pub value_least : (n care value x : ℕ) → care < 2 ^ n → bit_and value care ≡ value → T (has (digits_of n care value) x) → value ≤ x
value_least n care value x h e t = value_below n care value x h e (has→ (digits_of n care value) x t)
