-- Loops that search: the invariant of each, where it starts, what a turn does to it, and where it ends.
use mathlib.Core.Path.{◌≡◌, refl, sym, ap, ◌∙◌}
use mathlib.Core.Bool.{Bool, true, false, ◌&&◌, ◌||◌}
use mathlib.Core.List.{List, [], ◌∷◌}
use Rattle.std.specs.Prelude.{Option, None, Some}
use Prim.Native.Nat.{ℕ, zero, suc, ◌+◌, ◌-◌, ◌^◌, ◌≤◌, ◌<◌}
use native.Mathlib.Nat.{sub-zero, sub-eq-zero_of_le, not-suc-le-zero, le_of_suc-le-suc}
use native.Mathlib.Numerals.{add-one}
use native.Mathlib.Omega.{arith}
use native.Mathlib.Decide.{dec_lt}
use lib.Dec.{T, eqb}
use lib.Bits.{bit_and, xor_self, and_zero_l}
use lib.ListN.{length, get_or}
use Rattle.std.specs.List.{list_any, range_with_len}
use Rattle.hazard.specs.Search.{found, first, those, first_place}
use Rattle.hazard.specs.Cube.{has}
use Rattle.hazard.proofs.Test.{isnt, so}
use Rattle.cube.specs.Mask.{digits_of}
use Rattle.cube.proofs.Masks.{has_masks}

-- Both tests, where the first is known.
pub and-true : (a b : Bool) → a ≡ true → (a && b) ≡ b
and-true a b e = rw e

pub and-false : (a b : Bool) → a ≡ false → (a && b) ≡ false
and-false a b e = rw e

-- A read in range gives the same, whatever the default.
pub get_d_any : {A : Type 0} (l : List A) (i : ℕ) (d e : A) → i < length l → get_or l i d ≡ get_or l i e
get_d_any [] i d e h = absurd (not-suc-le-zero h)
get_d_any (x ∷ xs) zero d e h = refl
get_d_any (x ∷ xs) (suc i) d e h = get_d_any xs i d e (le_of_suc-le-suc h)

-- One more is left.
pub left : (n i : ℕ) → i < n → n - i ≡ suc (n - (i + 1))
left n i h = omega arith

-- A loop over the numbers below n, for the lowest that passes a test: at i the whole answer w is what is found from i on.
pub record Scan (test : ℕ → Bool) (n i : ℕ) (w : Option ℕ) : Type 0 where
  pub low : i ≤ n
  pub rest : w ≡ first test i (n - i)

pub scan_start : (test : ℕ → Bool) (n : ℕ) → Scan test n 0 (first test 0 n)
scan_start test n = record { low = omega arith; rest = rw sub-zero }

pub scan_hit : {test : ℕ → Bool} {n i : ℕ} {w : Option ℕ} → Scan test n i w → i < n → test i ≡ true → Some i ≡ w
scan_hit {test} {n} {i} s h e = rw (s.rest, left n i h, e, first)

pub scan_miss : {test : ℕ → Bool} {n i : ℕ} {w : Option ℕ} → Scan test n i w → i < n → test i ≡ false → Scan test n (i + 1) w
scan_miss {test} {n} {i} s h e = record { low = omega arith; rest = rw (s.rest, left n i h, e, first, add-one) }

pub scan_end : {test : ℕ → Bool} {n i : ℕ} {w : Option ℕ} → Scan test n i w → n ≤ i → None ≡ w
scan_end {test} {n} {i} s h = rw (s.rest, sub-eq-zero_of_le h)

-- A loop over the numbers below n, for the lowest at which a look finds something.
pub record Places (look : ℕ → Option ℕ) (n i : ℕ) (w : Option (ℕ × ℕ)) : Type 0 where
  pub low : i ≤ n
  pub rest : w ≡ first_place look i (n - i)

pub places_start : (look : ℕ → Option ℕ) (n : ℕ) → Places look n 0 (first_place look 0 n)
places_start look n = record { low = omega arith; rest = rw sub-zero }

pub places_hit : {look : ℕ → Option ℕ} {n i : ℕ} {w : Option (ℕ × ℕ)} → Places look n i w → i < n → {x : ℕ} → look i ≡ Some x → Some (i, x) ≡ w
places_hit {look} {n} {i} s h e = rw (s.rest, left n i h, e, first_place)

pub places_miss : {look : ℕ → Option ℕ} {n i : ℕ} {w : Option (ℕ × ℕ)} → Places look n i w → i < n → look i ≡ None → Places look n (i + 1) w
places_miss {look} {n} {i} s h e = record { low = omega arith; rest = rw (s.rest, left n i h, e, first_place, add-one) }

pub places_end : {look : ℕ → Option ℕ} {n i : ℕ} {w : Option (ℕ × ℕ)} → Places look n i w → n ≤ i → None ≡ w
places_end {look} {n} {i} s h = rw (s.rest, sub-eq-zero_of_le h)

-- Numbers that fail the test may be skipped.
pub those_skip : (test : ℕ → Bool) (m gap from to : ℕ) → from + gap ≡ to → ((z : ℕ) → from ≤ z → z < to → z < m → ¬ T (test z)) → those test from (m - from) ≡ those test to (m - to)
those_skip test m zero from to e h = let q : from ≡ to = omega arith in rw q
those_skip test m (suc gap) from to e h =
    elim (dec_lt from m) [
      | no l ↦ let p : m - from ≡ 0 = omega arith in let q : m - to ≡ 0 = omega arith in rw (p, q)
      | yes l ↦ rw (left m from l, isnt (test from) (h from (omega arith) (omega arith) l), those, add-one) (those_skip test m gap (suc from) to (omega arith) (λ z a b c. h z (omega arith) b c))
    ]

-- The lowest point of a clean cube is its value mask.
pub value_in_lem : (n care value : ℕ) → care < 2 ^ n → T (has (digits_of n care value) value)
value_in_lem n care value h = so (sym (has_masks n care value value h) ∙ ap (λ (a : ℕ). eqb (bit_and a care) 0) (xor_self value) ∙ ap (λ (a : ℕ). eqb a 0) (and_zero_l care))

-- `any` over numbers one after another, and over a list: something is found among the numbers, or among the list's places.
pub any_numbers : (test : ℕ → Bool) (from size : ℕ) → list_any test (range_with_len from size) ≡ found (first test from size)
any_numbers test from zero = refl
any_numbers test from (suc size) = rw add-one (or_found (test from) from (first test (suc from) size) (any_numbers test (suc from) size))
  where
    or_found : (b : Bool) (x : ℕ) (o : Option ℕ) {r : Bool} → r ≡ found o → (b || r) ≡ found (elim b [ true ↦ Some x | false ↦ o ])
    or_found true x o e = refl
    or_found false x o e = e

pub any_places : {A : Type 0} (test : A → Bool) (d : A) (l : List A) → list_any test l ≡ found (first (λ k. test (get_or l k d)) 0 (length l))
any_places test d [] = refl
any_places {A} test d (a ∷ l) = or_found (test a) (first (λ k. test (get_or (a ∷ l) k d)) 1 (length l)) (any_places test d l ∙ shifted (length l) 0)
  where
    or_found : (b : Bool) (o : Option ℕ) {r : Bool} → r ≡ found o → (b || r) ≡ found (elim b [ true ↦ Some 0 | false ↦ o ])
    or_found true o e = refl
    or_found false o e = e

    shifted : (size from : ℕ) → found (first (λ k. test (get_or l k d)) from size) ≡ found (first (λ k. test (get_or (a ∷ l) k d)) (suc from) size)
    shifted zero from = refl
    shifted (suc size) from = go (test (get_or l from d)) (first (λ k. test (get_or l k d)) (suc from) size) (first (λ k. test (get_or (a ∷ l) k d)) (suc (suc from)) size) (shifted size (suc from))
      where
        go : (b : Bool) (o q : Option ℕ) → found o ≡ found q → found (elim b [ true ↦ Some from | false ↦ o ]) ≡ found (elim b [ true ↦ Some (suc from) | false ↦ q ])
        go true o q e = refl
        go false o q e = e
