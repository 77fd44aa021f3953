-- A literal inverted, by the masks; and its cube's points: those that raising the literal adds.
use mathlib.Core.Path.{◌≡◌, refl, ap, ap₂, ◌∙◌}
use mathlib.Core.Logic.{◌≢◌}
use mathlib.Core.Bool.{Bool, true, false, not, ◌&&◌}
use mathlib.Core.List.{List, ◌∷◌}
use Prim.Native.Nat.{ℕ, zero, suc, ◌/◌, ◌%◌, ◌^◌, ◌≤◌, ◌<◌}
use native.Mathlib.Nat.{not-suc-le-zero, le_of_suc-le-suc, pow-suc}
use native.Mathlib.Omega.{arith}
use lib.Bits.{bit_and, bit_xor}
use lib.ListN.{get_or, set}
use Rattle.hazard.specs.Cube.{Cube, bit, fits, has}
use Rattle.hazard.specs.Added.{added}
use Rattle.hazard.proofs.Cube.{Digits, nil, cons}
use Rattle.hazard.proofs.Point.{bit-lt}
use Rattle.cube.specs.Mask.{digit, digits_of}
use Rattle.cube.specs.Invert.{inverse, invert}
use Rattle.cube.proofs.Digits.{digit_at_lem, masks_digits}
use Rattle.cube.proofs.Bits.{bit_case2, halves, lasts, xor_within}

-- The code's value mask.
abbrev pub turned : ℕ → ℕ → ℕ → ℕ
turned c v i = bit_xor v (bit_and c (2 ^ i))

turn-none : (n c v : ℕ) → digits_of n c (bit_xor v (bit_and c 0)) ≡ digits_of n c v
turn-none zero c v = refl
turn-none (suc n) c v =
    simp (halves, lasts)
    (ap₂ (λ (d : ℕ) (ds : List ℕ). d ∷ ds)
    (bit_case2 (λ c v. digit c (bit_xor v (bit_and c 0)) ≡ digit c v) refl refl refl refl c v)
    (turn-none n (c / 2) (v / 2)))

pub invert_masks : (n c v i : ℕ) → digits_of n c (turned c v i) ≡ invert (digits_of n c v) i
invert_masks zero c v i = refl
invert_masks (suc n) c v zero =
    simp (halves, lasts)
    (ap₂ (λ (d : ℕ) (ds : List ℕ). d ∷ ds)
    (bit_case2 (λ c v. digit c (bit_xor v (bit_and c 1)) ≡ inverse (digit c v)) refl refl refl refl c v)
    (turn-none n (c / 2) (v / 2)))
invert_masks (suc n) c v (suc i) =
    let p : 2 ^ suc i / 2 ≡ 2 ^ i = omega (arith, pow-suc 2 i) in
    let q : 2 ^ suc i % 2 ≡ 0 = omega (arith, pow-suc 2 i) in
    simp (halves, lasts, p, q)
    (ap₂ (λ (d : ℕ) (ds : List ℕ). d ∷ ds)
    (bit_case2 (λ c v. digit c (bit_xor v (bit_and c 0)) ≡ digit c v) refl refl refl refl c v)
    (invert_masks n (c / 2) (v / 2) i))

-- The value stays 0 where there is no literal.
pub turned_clean : (c v i : ℕ) → bit_and v c ≡ v → bit_and (turned c v i) c ≡ turned c v i
turned_clean c v i e = xor_within c v (2 ^ i) ∙ ap (λ (y : ℕ). bit_xor y (bit_and c (2 ^ i))) e

-- A point of the raised cube has the literal or its inverse.
other_side : (b d : ℕ) (h : Bool) → b ≤ 1 → d ≤ 1 → (fits b (inverse d) && h) ≡ ((fits b 2 && h) && not (fits b d && h))
other_side zero zero true k l = refl
other_side zero zero false k l = refl
other_side zero (suc zero) true k l = refl
other_side zero (suc zero) false k l = refl
other_side (suc zero) zero true k l = refl
other_side (suc zero) zero false k l = refl
other_side (suc zero) (suc zero) true k l = refl
other_side (suc zero) (suc zero) false k l = refl
other_side (suc (suc b)) d h k l = absurd (omega arith)
other_side zero (suc (suc d)) h k l = absurd (omega arith)
other_side (suc zero) (suc (suc d)) h k l = absurd (omega arith)

before : (f a b : Bool) → (f && (a && not b)) ≡ ((f && a) && not (f && b))
before true a b = refl
before false a b = refl

pub invert-adds : {n : ℕ} {c : Cube} (i x : ℕ) → Digits n c → i < n → get_or c i 0 ≢ 2 → has (invert c i) x ≡ added c (set c i 2) x
invert-adds i x nil l ne = absurd (not-suc-le-zero l)
invert-adds zero x (cons {d = d} {ds = ds} h w) l ne = other_side (x % 2) d (has ds (x / 2)) (omega arith) (omega (arith, h, ne))
invert-adds (suc i) x (cons {d = d} {ds = ds} h w) l ne =
    ap (λ (b : Bool). fits (x % 2) d && b) (invert-adds i (x / 2) w (le_of_suc-le-suc l) ne) ∙ before (fits (x % 2) d) (has (set ds i 2) (x / 2)) (has ds (x / 2))

-- Of masks, where input i has a literal.
pub inverted_adds : (n c v i x : ℕ) → i < n → bit c i ≡ 1 → has (invert (digits_of n c v) i) x ≡ added (digits_of n c v) (set (digits_of n c v) i 2) x
inverted_adds n c v i x l e = invert-adds i x (masks_digits n c v) l (λ q. omega (arith, q, bit-lt v i, digit_at_lem n c v i l ∙ ap (λ (b : ℕ). digit b (bit v i)) e))
