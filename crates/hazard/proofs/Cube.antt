-- The laws of cubes. Each test of specs/Cube is read as a relation, once; the laws are about the relations.
use mathlib.Core.Path.{◌≡◌, refl, sym}
use mathlib.Core.Bool.{Bool, true, false}
use mathlib.Core.List.{[], ◌∷◌}
use Prim.Native.Nat.{ℕ, zero, suc, ◌+◌, ◌*◌, ◌/◌, ◌%◌, ◌^◌, ◌≤◌, ◌<◌}
use native.Mathlib.Omega.{arith}
use native.Mathlib.Decide.{dec_lt}
use lib.Dec.{T, leb→le, le→leb}
use lib.ListN.{get_or, set}
use Rattle.hazard.specs.Cube.{Cube, is_product, has, span, join, supercube, meets, inside}
use Rattle.hazard.proofs.Test.{T_and}
use Rattle.hazard.proofs.Digit.{Fits, top, same, fits→, →fits, fits_trans, fits_antisym, fits_two, over-left, over-right, over_self, over_least, over-digit, literal, digit_points, digit_meet, meet_digit, fix, fix_le, fix_zero, fits_fix, fits_tight}

-- A cube over n inputs; a cube has a point; a cube lies inside a cube.
pub data Digits : ℕ → Cube → Type 0 where
  nil : Digits zero []
  cons : {n d : ℕ} {ds : Cube} → d ≤ 2 → Digits n ds → Digits (suc n) (d ∷ ds)

pub data Has : Cube → ℕ → Type 0 where
  nil : {x : ℕ} → Has [] x
  cons : {d x : ℕ} {ds : Cube} → Fits (x % 2) d → Has ds (x / 2) → Has (d ∷ ds) x

pub data Inside : Cube → Cube → Type 0 where
  nil : Inside [] []
  cons : {d e : ℕ} {ds es : Cube} → Fits d e → Inside ds es → Inside (d ∷ ds) (e ∷ es)

pub digits→ : (n : ℕ) (c : Cube) → T (is_product n c) → Digits n c
digits→ zero [] t = nil
digits→ zero (d ∷ ds) t = absurd t
digits→ (suc n) [] t = absurd t
digits→ (suc n) (d ∷ ds) t = let k = simp T_and at t in cons (leb→le d 2 k.0) (digits→ n ds k.1)

pub →digits : {n : ℕ} {c : Cube} → Digits n c → T (is_product n c)
→digits nil = tt
→digits (cons {d = d} h w) = simp T_and (le→leb d 2 h, →digits w)

pub has→ : (c : Cube) (x : ℕ) → T (has c x) → Has c x
has→ [] x h = nil
has→ (d ∷ ds) x h = let k = simp T_and at h in cons (fits→ (x % 2) d k.0) (has→ ds (x / 2) k.1)

pub →has : {c : Cube} {x : ℕ} → Has c x → T (has c x)
→has nil = tt
→has (cons u h) = simp T_and (→fits u, →has h)

pub inside→ : (c d : Cube) → T (inside c d) → Inside c d
inside→ [] [] h = nil
inside→ [] (e ∷ es) h = absurd h
inside→ (d ∷ ds) [] h = absurd h
inside→ (d ∷ ds) (e ∷ es) h = let k = simp T_and at h in cons (fits→ d e k.0) (inside→ ds es k.1)

pub →inside : {c d : Cube} → Inside c d → T (inside c d)
→inside nil = tt
→inside (cons u h) = simp T_and (→fits u, →inside h)

pub has_dec : (c : Cube) (x : ℕ) → Dec (Has c x)
has_dec c x = go (has c x) (has→ c x) (λ h. →has h)
  where
    go : (b : Bool) → (T b → Has c x) → (Has c x → T b) → Dec (Has c x)
    go true h k = yes (h tt)
    go false h k = no k

-- The order.
pub inside_refl : (c : Cube) → Inside c c
inside_refl [] = nil
inside_refl (d ∷ ds) = cons (same refl) (inside_refl ds)

pub inside_trans : {c d e : Cube} → Inside c d → Inside d e → Inside c e
inside_trans nil nil = nil
inside_trans (cons u h) (cons v k) = cons (fits_trans u v) (inside_trans h k)

pub inside_antisym : {c d : Cube} → Inside c d → Inside d c → c ≡ d
inside_antisym nil nil = refl
inside_antisym (cons u h) (cons v k) = cc (fits_antisym u v, inside_antisym h k)

pub inside-has : {c d : Cube} {x : ℕ} → Inside c d → Has c x → Has d x
inside-has nil nil = nil
inside-has (cons u h) (cons v k) = cons (fits_trans v u) (inside-has h k)

-- A point made of its first literal and the rest.
pub has_put : {d y : ℕ} {ds : Cube} (b : ℕ) → b < 2 → Fits b d → Has ds y → Has (d ∷ ds) (b + 2 * y)
has_put {d} {y} {ds} b l u h =
    let p : (b + 2 * y) % 2 ≡ b = omega arith in
    let q : (b + 2 * y) / 2 ≡ y = omega arith in
    cons {d = d} {x = b + 2 * y} {ds = ds} (rw p u) (rw q h)

pub put_has : {d : ℕ} {ds : Cube} (b y : ℕ) → b < 2 → Has (d ∷ ds) (b + 2 * y) → Fits b d × Has ds y
put_has b y l (cons u h) =
    let p : (b + 2 * y) % 2 ≡ b = omega arith in
    let q : (b + 2 * y) / 2 ≡ y = omega arith in
    (rw p at u, rw q at h)

pub corner : {n : ℕ} {c : Cube} → Digits n c → (x : ℕ) × (x < 2 ^ n) × Has c x
corner nil = (0, omega arith, nil)
corner (cons {d = d} h w) =
    let (b, l, u) = literal d h in
    let (y, m, k) = corner w in
    (b + 2 * y, omega arith, has_put b l u k)

-- A cube lies inside a cube that has its points.
pub points_inside : {n : ℕ} {c d : Cube} → Digits n c → Digits n d → ((x : ℕ) → x < 2 ^ n → Has c x → Has d x) → Inside c d
points_inside nil nil f = nil
points_inside {n} (cons {d = d} h v) (cons {d = e} k w) f =
    let (a, l, u) = literal d h in
    let (y, m, t) = corner v in
    cons
    (digit_points d e h (λ b i j. (put_has b y i (f (b + 2 * y) (omega arith) (has_put b i j t))).0))
    (points_inside v w (λ z i j. (put_has a z l (f (a + 2 * z) (omega arith) (has_put a l u j))).1))

-- Two cubes meet where they share a point.
pub meets→ : {n : ℕ} {c d : Cube} → Digits n c → Digits n d → T (meets c d) → (x : ℕ) × (x < 2 ^ n) × Has c x × Has d x
meets→ nil nil t = (0, omega arith, nil, nil)
meets→ (cons {d = d} h v) (cons {d = e} k w) t =
    let (i, j) = simp T_and at t in
    let (b, l, p, q) = digit_meet d e h k i in
    let (y, m, r, s) = meets→ v w j in
    (b + 2 * y, omega arith, has_put b l p r, has_put b l q s)

pub →meets : {n : ℕ} {c d : Cube} {x : ℕ} → Digits n c → Digits n d → Has c x → Has d x → T (meets c d)
→meets nil nil nil nil = tt
→meets (cons h v) (cons k w) (cons p r) (cons q s) = simp T_and (meet_digit p q, →meets v w r s)

-- The smallest cube around a cube and a point.
pub join-digits : {n : ℕ} {c : Cube} (x : ℕ) → Digits n c → Digits n (join c x)
join-digits x nil = nil
join-digits x (cons {d = d} h w) = cons (over-digit d (x % 2) h) (join-digits (x / 2) w)

pub inside-join : (c : Cube) (x : ℕ) → Inside c (join c x)
inside-join [] x = nil
inside-join (d ∷ ds) x = cons (over-left d (x % 2)) (inside-join ds (x / 2))

pub join-has : (c : Cube) (x : ℕ) → Has (join c x) x
join-has [] x = nil
join-has (d ∷ ds) x = cons (over-right d (x % 2)) (join-has ds (x / 2))

pub join_least : {c q : Cube} {x : ℕ} → Inside c q → Has q x → Inside (join c x) q
join_least nil nil = nil
join_least (cons u h) (cons v k) = cons (over_least u v) (join_least h k)

-- The smallest cube around two cubes.
pub supercube-digits : {n : ℕ} {c d : Cube} → Digits n c → Digits n d → Digits n (supercube c d)
supercube-digits nil nil = nil
supercube-digits (cons {d = d} h v) (cons {d = e} k w) = cons (over-digit d e h) (supercube-digits v w)

pub inside-left : {n : ℕ} {c d : Cube} → Digits n c → Digits n d → Inside c (supercube c d)
inside-left nil nil = nil
inside-left (cons {d = d} h v) (cons {d = e} k w) = cons (over-left d e) (inside-left v w)

pub inside-right : {n : ℕ} {c d : Cube} → Digits n c → Digits n d → Inside d (supercube c d)
inside-right nil nil = nil
inside-right (cons {d = d} h v) (cons {d = e} k w) = cons (over-right d e) (inside-right v w)

pub supercube_self : (c : Cube) → supercube c c ≡ c
supercube_self [] = refl
supercube_self (d ∷ ds) = cc (over_self d, supercube_self ds)

pub supercube_least : {c d q : Cube} → Inside c q → Inside d q → Inside (supercube c d) q
supercube_least nil nil = nil
supercube_least (cons u h) (cons v k) = cons (over_least u v) (supercube_least h k)

-- The smallest cube around two points.
pub span-digits : (n p q : ℕ) → Digits n (span n p q)
span-digits zero p q = nil
span-digits (suc n) p q = cons (over-digit (p % 2) (q % 2) (omega arith)) (span-digits n (p / 2) (q / 2))

pub span_left : (n p q : ℕ) → Has (span n p q) p
span_left zero p q = nil
span_left (suc n) p q = cons (over-left (p % 2) (q % 2)) (span_left n (p / 2) (q / 2))

pub span_right : (n p q : ℕ) → Has (span n p q) q
span_right zero p q = nil
span_right (suc n) p q = cons (over-right (p % 2) (q % 2)) (span_right n (p / 2) (q / 2))

pub span_least : {n p q : ℕ} {c : Cube} → Digits n c → Has c p → Has c q → Inside (span n p q) c
span_least nil nil nil = nil
span_least (cons l w) (cons u h) (cons v k) = cons (over_least u v) (span_least w h k)

-- How many inputs a cube fixes. A cube that fixes no fewer than one inside it is that one.
abbrev pub fixed : Cube → ℕ
fixed [] = 0
fixed (d ∷ ds) = fix d + fixed ds

pub inside-fixed : {c d : Cube} → Inside c d → fixed d ≤ fixed c
inside-fixed nil = omega arith
inside-fixed (cons u h) = omega (arith, fits_fix u, inside-fixed h)

pub inside_tight : {c d : Cube} → Inside c d → fixed c ≤ fixed d → Inside d c
inside_tight nil l = nil
inside_tight (cons u h) l = cons (fits_tight u (omega (arith, inside-fixed h))) (inside_tight h (omega (arith, fits_fix u)))

pub join_less : (c : Cube) (x : ℕ) → ¬ Has c x → fixed (join c x) < fixed c
join_less c x h = go (dec_lt (fixed (join c x)) (fixed c))
  where
    go : Dec (fixed (join c x) < fixed c) → fixed (join c x) < fixed c
    go (yes l) = l
    go (no l) = absurd (h (inside-has (inside_tight (inside-join c x) (omega arith)) (join-has c x)))

pub fixed-le : {n : ℕ} {c : Cube} → Digits n c → fixed c ≤ n
fixed-le nil = omega arith
fixed-le (cons {d = d} h w) = omega (arith, fix_le d, fixed-le w)

pub none-fixed : (c : Cube) → fixed c ≤ 0 → (x : ℕ) → Has c x
none-fixed [] l x = nil
none-fixed (d ∷ ds) l x = cons (top (fix_zero d (omega arith))) (none-fixed ds (omega arith) (x / 2))

-- Freeing an input.
pub set-digits : {n : ℕ} {c : Cube} (i : ℕ) → Digits n c → Digits n (set c i 2)
set-digits i nil = nil
set-digits zero (cons h w) = cons {d = 2} (omega arith) w
set-digits (suc i) (cons h w) = cons h (set-digits i w)

pub inside-set : (c : Cube) (i : ℕ) → Inside c (set c i 2)
inside-set [] i = nil
inside-set (d ∷ ds) zero = cons (top refl) (inside_refl ds)
inside-set (d ∷ ds) (suc i) = cons (same refl) (inside-set ds i)

pub set-inside : {c q : Cube} (i : ℕ) → Inside c q → get_or q i 2 ≡ 2 → Inside (set c i 2) q
set-inside i nil e = nil
set-inside zero (cons u h) e = cons (top e) h
set-inside (suc i) (cons u h) e = cons u (set-inside i h e)

-- An input that is free inside is free outside.
pub free-inside : {c q : Cube} (i : ℕ) → Inside c q → get_or c i 2 ≡ 2 → get_or q i 2 ≡ 2
free-inside i nil e = e
free-inside zero (cons u h) e = fits_two u e
free-inside (suc i) (cons u h) e = free-inside i h e

pub free-set : (c : Cube) (i : ℕ) → get_or (set c i 2) i 2 ≡ 2
free-set [] i = refl
free-set (d ∷ ds) zero = refl
free-set (d ∷ ds) (suc i) = free-set ds i

-- A cube around another with the same free inputs lies inside it.
pub inside_back : {n : ℕ} {c q : Cube} → Digits n c → Inside c q → ((i : ℕ) → i < n → get_or q i 2 ≡ 2 → get_or c i 2 ≡ 2) → Inside q c
inside_back nil nil f = nil
inside_back (cons l w) (cons (top p) h) f = cons (top (f 0 (omega arith) p)) (inside_back w h (λ i b. f (suc i) (omega arith)))
inside_back (cons l w) (cons (same p) h) f = cons (same (sym p)) (inside_back w h (λ i b. f (suc i) (omega arith)))
