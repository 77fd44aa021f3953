-- A network's bytes, product by product.
use mathlib.Core.Path.{◌≡◌, refl, sym, ap, ◌∙◌}
use mathlib.Core.Bool.{Bool, not}
use mathlib.Core.List.{List, [], ◌∷◌}
use Prim.Native.Nat.{ℕ, zero, suc, ◌+◌, ◌-◌, ◌*◌, ◌/◌, ◌≤◌, ◌<◌}
use native.Mathlib.Nat.{not-suc-le-zero, le_of_suc-le-suc, zero-mul, add_comm, suc-mul, mul-le-mul_right, div-add-mod'}
use native.Mathlib.Numerals.{add-one}
use native.Mathlib.Omega.{arith}
use Rattle.std.specs.Prelude.{Option, None, Some, option_map}
use lib.Dec.{T, ltb, leb→le}
use Rattle.std.specs.List.{list_any}
use lib.ListN.{length, get_or, take, drop, length-drop}
use lib.Seq.{length-take-le, drop-drop}
use borrow.Author.Tests.{lt-ltb, le-ltb, lt-leb, le-leb}
use native.Mathlib.Decide.{dec_lt}
use Rattle.hazard.specs.Cube.{is_product}
use Rattle.hazard.specs.Cover.{product_at}
use Rattle.hazard.specs.Search.{first}
use Rattle.hazard.specs.Refusal.{Refusal, product_refusal}
use Rattle.hazard.specs.Verdict.{cut, products, products_check, digits_check}
use Rattle.hazard.proofs.Test.{T_and}
use Rattle.hazard.proofs.Network.{entry_at}
use Rattle.hazard.proofs.Verdict.{products-length, products_fit, digits_formed}
use Rattle.network_bytes.specs.Network.{Sound}

-- Some byte above 2.
pub any_bad : (l : List ℕ) → list_any (ltb 2) l ≡ not (is_product (length l) l)
any_bad [] = refl
any_bad (d ∷ ds) = elim (dec_lt 2 d) [
  | yes h ↦ rw (lt-ltb 2 d h, lt-leb d 2 h)
  | no h ↦ let l : d ≤ 2 = omega arith in rw (le-ltb 2 d l, le-leb d 2 l) (any_bad ds)
]

-- The products that a network's bytes are cut into.
cut_at : (n count : ℕ) (bytes : List ℕ) (j : ℕ) → j < count → product_at (cut n count bytes) j ≡ take n (drop (j * n) bytes)
cut_at n zero bytes j h = absurd (not-suc-le-zero h)
cut_at n (suc count) bytes zero h = rw zero-mul
cut_at n (suc count) bytes (suc j) h = cut_at n count (drop n bytes) j (le_of_suc-le-suc h) ∙ rw (drop-drop, suc-mul, add_comm (j * n) n)

pub products_at : (n : ℕ) (bytes : List ℕ) (j : ℕ) → j < length bytes / n → product_at (products n bytes) j ≡ take n (drop (j * n) bytes)
products_at n bytes j h = cut_at n (length bytes / n) bytes j h

-- A product's bytes are within the network's.
pub product-room : (n len j : ℕ) → j < len / n → j * n + n ≤ len
product-room n len j h = omega (arith, suc-mul j n, mul-le-mul_right n h, div-add-mod' len n)

-- The test of check 12 at product j.
abbrev pub bad_at : ℕ → List ℕ → ℕ → Bool
bad_at n bytes j = not (is_product n (product_at (products n bytes) j))

-- Product j, at its place.
module _ (n : ℕ) (bytes : List ℕ) {at j : ℕ} (e : at ≡ j * n) where
  pub place-room : j < length bytes / n → at + n ≤ length bytes
  place-room h = rw e (product-room n (length bytes) j h)

  pub place_bad : j < length bytes / n → not (is_product n (take n (drop at bytes))) ≡ bad_at n bytes j
  place_bad h = rw (e, products_at n bytes j h)

-- As the part of the bytes from its place on.
pub part_bad : (n : ℕ) (bytes : List ℕ) {j : ℕ} → j < length bytes / n
    → not (is_product (length (take (j * n + n - j * n) (drop (j * n) bytes))) (take (j * n + n - j * n) (drop (j * n) bytes))) ≡ bad_at n bytes j
part_bad n bytes {j} h =
    let e : j * n + n - j * n ≡ n = omega arith in
    let r = product-room n (length bytes) j h in
    rw (e, length-take-le n (drop (j * n) bytes) (omega (arith, length-drop (j * n) bytes))) (place_bad n bytes refl h)

pub place_next : (n at j : ℕ) → at ≡ j * n → at + n ≡ (j + 1) * n
place_next n at j e = rw (e, add-one) (sym (suc-mul j n))

-- Check 12 by the places of the products.
digits_check_lem : (n : ℕ) (bytes : List ℕ) → digits_check n (products n bytes) ≡ option_map (product_refusal 12) (first (bad_at n bytes) 0 (length bytes / n))
digits_check_lem n bytes = ap (λ (k : ℕ). option_map (product_refusal 12) (first (bad_at n bytes) 0 k)) (products-length n bytes)

pub digits-found : (n : ℕ) (bytes : List ℕ) {j : ℕ} {r : Refusal} → r ≡ product_refusal 12 j → Some j ≡ first (bad_at n bytes) 0 (length bytes / n) → ◌≡◌ {A = Option Refusal} (Some r) (digits_check n (products n bytes))
digits-found n bytes {j} {r} q e = ap {B = Option Refusal} Some q ∙ ap (option_map (product_refusal 12)) e ∙ sym (digits_check_lem n bytes)

pub digits-none : (n : ℕ) (bytes : List ℕ) → None ≡ first (bad_at n bytes) 0 (length bytes / n) → ◌≡◌ {A = Option Refusal} None (digits_check n (products n bytes))
digits-none n bytes e = ap (option_map (product_refusal 12)) e ∙ sym (digits_check_lem n bytes)

-- What checks 11 and 12 let through.
pub sound : {n : ℕ} → n ≤ 10 → 1 ≤ n → (bytes : List ℕ) → products_check n bytes ≡ None → digits_check n (products n bytes) ≡ None → Sound n bytes
sound {n} small some bytes p d =
    let (even, few) = products_fit n bytes p in record { some' = some; small = small; even = even; few = few; digits = digits_formed n bytes d }

-- The bytes of a product are at most 2.
digit-le : (n : ℕ) (l : List ℕ) (i : ℕ) → T (is_product n l) → i < n → get_or l i 0 ≤ 2
digit-le zero l i t h = absurd (not-suc-le-zero h)
digit-le (suc n) [] i t h = absurd t
digit-le (suc n) (d ∷ ds) zero t h = leb→le d 2 (simp T_and at t).0
digit-le (suc n) (d ∷ ds) (suc i) t h = digit-le n ds i (simp T_and at t).1 (le_of_suc-le-suc h)

pub byte_le : {n : ℕ} {bytes : List ℕ} → Sound n bytes → {j : ℕ} → j < length bytes / n → (i : ℕ) → i < n → get_or (product_at (products n bytes) j) i 0 ≤ 2
byte_le {n} {bytes} s {j} h i l =
    digit-le n (product_at (products n bytes) j) i (s.digits (product_at (products n bytes) j) (entry_at (products n bytes) j (omega (arith, products-length n bytes)))) l
