-- What the cube operations on masks give.
use mathlib.Core.Path.{◌≡◌, refl, ap, ap₂, ◌∙◌}
use mathlib.Core.Bool.{◌&&◌}
use mathlib.Core.List.{List, ◌∷◌}
use Prim.Native.Nat.{ℕ, zero, suc, ◌-◌, ◌/◌, ◌%◌, ◌^◌, ◌<◌}
use native.Mathlib.Nat.{pow-suc, lt_of_le_of_lt}
use native.Mathlib.Omega.{arith}
use lib.Dec.{eqb}
use lib.Arith.{lt-one}
use lib.Bits.{bit_and, bit_or, bit_xor, and_zero_r, and_le_l, and_le_r, xor_lt}
use lib.ListN.{set}
use lib.Pow.{pow_pos}
use Rattle.hazard.specs.Cube.{fits, over, has, span, join, supercube, inside}
use Rattle.cube.specs.Mask.{digit, digits_of}
use Rattle.cube.proofs.Bits.{bit_case2, bit_case3, bit_case4, halves, lasts, half_lt, zero_split}

-- A mask test: eqb of a bitwise expression against 0, digit by digit.
pub has_masks : (n care v x : ℕ) → care < 2 ^ n → eqb (bit_and (bit_xor x v) care) 0 ≡ has (digits_of n care v) x
has_masks zero care v x h = ap (λ (a : ℕ). eqb (bit_and (bit_xor x v) a) 0) (lt-one h) ∙ ap (λ (a : ℕ). eqb a 0) (and_zero_r (bit_xor x v))
has_masks (suc n) care v x h =
    zero_split (bit_and (bit_xor x v) care)
    ∙ simp (halves, lasts)
    (ap₂ ◌&&◌
    (bit_case3 (λ a b c. eqb (bit_and (bit_xor a b) c) 0 ≡ fits a (digit c b)) refl refl refl refl refl refl refl refl x v care)
    (has_masks n (care / 2) (v / 2) (x / 2) (half_lt care n h)))

pub inside_masks : (n c v d w : ℕ) → d < 2 ^ n → eqb (bit_and d (bit_or (bit_xor c d) (bit_xor v w))) 0 ≡ inside (digits_of n c v) (digits_of n d w)
inside_masks zero c v d w h = ap (λ (a : ℕ). eqb (bit_and a (bit_or (bit_xor c a) (bit_xor v w))) 0) (lt-one h)
inside_masks (suc n) c v d w h =
    zero_split (bit_and d (bit_or (bit_xor c d) (bit_xor v w)))
    ∙ simp (halves, lasts)
    (ap₂ ◌&&◌
    (bit_case4 (λ c v d w. eqb (bit_and d (bit_or (bit_xor c d) (bit_xor v w))) 0 ≡ fits (digit c v) (digit d w))
    refl refl refl refl refl refl refl refl refl refl refl refl refl refl refl refl c v d w)
    (inside_masks n (c / 2) (v / 2) (d / 2) (w / 2) (half_lt d n h)))

-- The masks of the smallest cube around a cube and a point.
abbrev pub keep : ℕ → ℕ → ℕ → ℕ
keep c v x = bit_xor c (bit_and (bit_xor v x) c)

pub join_masks : (n c v x : ℕ) → digits_of n (keep c v x) (bit_and v (keep c v x)) ≡ join (digits_of n c v) x
join_masks zero c v x = refl
join_masks (suc n) c v x =
    simp (halves, lasts)
    (ap₂ (λ (d : ℕ) (ds : List ℕ). d ∷ ds)
    (bit_case3 (λ c v x. digit (keep c v x) (bit_and v (keep c v x)) ≡ over (digit c v) x) refl refl refl refl refl refl refl refl c v x)
    (join_masks n (c / 2) (v / 2) (x / 2)))

pub keep_lt : (n c v x : ℕ) → c < 2 ^ n → keep c v x < 2 ^ n
keep_lt n c v x h = xor_lt n c (bit_and (bit_xor v x) c) h (lt_of_le_of_lt (and_le_r (bit_xor v x) c) h)

-- The masks of [P,Q].
abbrev pub same : ℕ → ℕ → ℕ → ℕ
same m p q = bit_xor m (bit_xor p q)

pub span_masks : (n m p q : ℕ) → m ≡ 2 ^ n - 1 → digits_of n (same m p q) (bit_and p (same m p q)) ≡ span n p q
span_masks zero m p q e = refl
span_masks (suc n) m p q e =
    simp (halves, lasts)
    (ap₂ (λ (d : ℕ) (ds : List ℕ). d ∷ ds)
    (bit_case3 (λ m p q. m ≡ 1 → digit (same m p q) (bit_and p (same m p q)) ≡ over p q)
    (λ e. absurd (omega arith)) (λ e. absurd (omega arith)) (λ e. absurd (omega arith)) (λ e. absurd (omega arith))
    (λ e. refl) (λ e. refl) (λ e. refl) (λ e. refl) m p q (omega (arith, pow-suc 2 n, pow_pos n)))
    (span_masks n (m / 2) (p / 2) (q / 2) (omega (arith, pow-suc 2 n, pow_pos n))))

pub same-lt : (n m p q : ℕ) → m ≡ 2 ^ n - 1 → p < 2 ^ n → q < 2 ^ n → same m p q < 2 ^ n
same-lt n m p q e hp hq = xor_lt n m (bit_xor p q) (omega (arith, pow_pos n)) (xor_lt n p q hp hq)

-- The masks of the smallest cube around two cubes.
abbrev pub shared : ℕ → ℕ → ℕ → ℕ → ℕ
shared c v d w = bit_xor (bit_and c d) (bit_and (bit_xor v w) (bit_and c d))

pub supercube_masks : (n c v d w : ℕ) → digits_of n (shared c v d w) (bit_and v (shared c v d w)) ≡ supercube (digits_of n c v) (digits_of n d w)
supercube_masks zero c v d w = refl
supercube_masks (suc n) c v d w =
    simp (halves, lasts)
    (ap₂ (λ (d : ℕ) (ds : List ℕ). d ∷ ds)
    (bit_case4 (λ c v d w. digit (shared c v d w) (bit_and v (shared c v d w)) ≡ over (digit c v) (digit d w))
    refl refl refl refl refl refl refl refl refl refl refl refl refl refl refl refl c v d w)
    (supercube_masks n (c / 2) (v / 2) (d / 2) (w / 2)))

pub shared_lt : (n c v d w : ℕ) → c < 2 ^ n → shared c v d w < 2 ^ n
shared_lt n c v d w h =
    let both : bit_and c d < 2 ^ n = lt_of_le_of_lt (and_le_l c d) h in
    xor_lt n (bit_and c d) (bit_and (bit_xor v w) (bit_and c d)) both (lt_of_le_of_lt (and_le_r (bit_xor v w) (bit_and c d)) both)

-- The masks of a cube with one literal raised.
abbrev pub without : ℕ → ℕ → ℕ
without c i = bit_xor c (bit_and c (2 ^ i))

raise-none : (n c v : ℕ) → digits_of n (bit_xor c (bit_and c 0)) (bit_and v (bit_xor c (bit_and c 0))) ≡ digits_of n c v
raise-none zero c v = refl
raise-none (suc n) c v =
    simp (halves, lasts)
    (ap₂ (λ (d : ℕ) (ds : List ℕ). d ∷ ds)
    (bit_case2 (λ c v. digit (bit_xor c (bit_and c 0)) (bit_and v (bit_xor c (bit_and c 0))) ≡ digit c v) refl refl refl refl c v)
    (raise-none n (c / 2) (v / 2)))

pub raise_masks : (n c v i : ℕ) → digits_of n (without c i) (bit_and v (without c i)) ≡ set (digits_of n c v) i 2
raise_masks zero c v i = refl
raise_masks (suc n) c v zero =
    simp (halves, lasts)
    (ap₂ (λ (d : ℕ) (ds : List ℕ). d ∷ ds)
    (bit_case2 (λ c v. digit (bit_xor c (bit_and c 1)) (bit_and v (bit_xor c (bit_and c 1))) ≡ 2) refl refl refl refl c v)
    (raise-none n (c / 2) (v / 2)))
raise_masks (suc n) c v (suc i) =
    let p : 2 ^ suc i / 2 ≡ 2 ^ i = omega (arith, pow-suc 2 i) in
    let q : 2 ^ suc i % 2 ≡ 0 = omega (arith, pow-suc 2 i) in
    simp (halves, lasts, p, q)
    (ap₂ (λ (d : ℕ) (ds : List ℕ). d ∷ ds)
    (bit_case2 (λ c v. digit (bit_xor c (bit_and c 0)) (bit_and v (bit_xor c (bit_and c 0))) ≡ digit c v) refl refl refl refl c v)
    (raise_masks n (c / 2) (v / 2) i))

pub without-lt : (n c i : ℕ) → c < 2 ^ n → without c i < 2 ^ n
without-lt n c i h = xor_lt n c (bit_and c (2 ^ i)) h (lt_of_le_of_lt (and_le_l c (2 ^ i)) h)
