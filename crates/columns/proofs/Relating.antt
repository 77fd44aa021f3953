-- A row is related to a cube exactly where it allows the digit of each input.
use mathlib.Core.Path.{◌≡◌, refl, sym, ap, ap₂, ◌∙◌}
use mathlib.Core.Bool.{Bool, true, false, ◌&&◌, ◌||◌}
use mathlib.Core.List.{[], ◌∷◌}
use Prim.Native.Nat.{ℕ, zero, suc, ◌/◌, ◌%◌, ◌^◌, ◌<◌}
use native.Mathlib.Omega.{arith}
use lib.Dec.{eqb}
use Rattle.hazard.specs.Cube.{Cube, bit, fits, has, meets, inside}
use Rattle.hazard.proofs.Point.{bit-zero, bit-suc}
use Rattle.cube.specs.Mask.{digit, digits_of}
use Rattle.cube.specs.Entry.{care_in, value_in, point_in}
use Rattle.cube.proofs.Bits.{bit_case2}
use Rattle.columns.specs.Relation.{allows, relates}
use Rattle.columns.specs.declared.relation.Relation.{Relation}
use Rattle.columns.specs.declared.relation.Relation.TheVariants.{Inside, Meets, Contains, PointInside}

-- The test passes at every number below n.
abbrev pub upto : (ℕ → Bool) → ℕ → Bool
upto f zero = true
upto f (suc n) = upto f n && f n

pub and-true : (b : Bool) → b ≡ (b && true)
and-true true = refl
and-true false = refl

pub and_assoc : (a b c : Bool) → ((a && b) && c) ≡ (a && (b && c))
and_assoc true b c = refl
and_assoc false b c = refl

upto_rest : (f g : ℕ → Bool) (b : Bool) (n : ℕ) → f 0 ≡ b → ((i : ℕ) → f (suc i) ≡ g i) → upto f (suc n) ≡ (b && upto g n)
upto_rest f g b zero e h = e ∙ and-true b
upto_rest f g b (suc n) e h = ap₂ ◌&&◌ (upto_rest f g b n e h) (h n) ∙ and_assoc b (upto g n) (g n)

-- The digits of a cube, the first and the rest.
digit-first : (c v : ℕ) → digit (bit c 0) (bit v 0) ≡ digit (c % 2) (v % 2)
digit-first c v = ap₂ digit (bit-zero c) (bit-zero v)

digit-rest : (c v i : ℕ) → digit (bit c (suc i)) (bit v (suc i)) ≡ digit (bit (c / 2) i) (bit (v / 2) i)
digit-rest c v i = ap₂ digit (bit-suc c i) (bit-suc v i)

-- Two cubes, input by input, where a test of their digits relates them.
both_upto : (test : ℕ → ℕ → Bool) (related : Cube → Cube → Bool) → related [] [] ≡ true → ((d e : ℕ) (ds es : Cube) → related (d ∷ ds) (e ∷ es) ≡ (test d e && related ds es))
    → (n c v d w : ℕ) → upto (λ i. test (digit (bit c i) (bit v i)) (digit (bit d i) (bit w i))) n ≡ related (digits_of n c v) (digits_of n d w)
both_upto test related none more zero c v d w = sym none
both_upto test related none more (suc n) c v d w =
    upto_rest (λ i. test (digit (bit c i) (bit v i)) (digit (bit d i) (bit w i))) (λ i. test (digit (bit (c / 2) i) (bit (v / 2) i)) (digit (bit (d / 2) i) (bit (w / 2) i)))
    (test (digit (c % 2) (v % 2)) (digit (d % 2) (w % 2))) n (ap₂ test (digit-first c v) (digit-first d w)) (λ i. ap₂ test (digit-rest c v i) (digit-rest d w i))
    ∙ ap (λ (b : Bool). test (digit (c % 2) (v % 2)) (digit (d % 2) (w % 2)) && b) (both_upto test related none more n (c / 2) (v / 2) (d / 2) (w / 2))
    ∙ sym (more (digit (c % 2) (v % 2)) (digit (d % 2) (w % 2)) (digits_of n (c / 2) (v / 2)) (digits_of n (d / 2) (w / 2)))

inside_upto : (n c v d w : ℕ) → upto (λ i. fits (digit (bit c i) (bit v i)) (digit (bit d i) (bit w i))) n ≡ inside (digits_of n c v) (digits_of n d w)
inside_upto = both_upto (λ d e. fits d e) inside refl (λ d e ds es. refl)

has_upto : (n c v x : ℕ) → upto (λ i. fits (bit x i) (digit (bit c i) (bit v i))) n ≡ has (digits_of n c v) x
has_upto zero c v x = refl
has_upto (suc n) c v x =
    upto_rest (λ i. fits (bit x i) (digit (bit c i) (bit v i))) (λ i. fits (bit (x / 2) i) (digit (bit (c / 2) i) (bit (v / 2) i)))
    (fits (x % 2) (digit (c % 2) (v % 2))) n (ap₂ fits (bit-zero x) (digit-first c v)) (λ i. ap₂ fits (bit-suc x i) (digit-rest c v i))
    ∙ ap (λ (b : Bool). fits (x % 2) (digit (c % 2) (v % 2)) && b) (has_upto n (c / 2) (v / 2) (x / 2))

pub relates_upto : (rel : Relation) (n care value w : ℕ) → upto (λ i. allows rel w i (digit (bit care i) (bit value i))) n ≡ relates rel n (digits_of n care value) w
relates_upto Inside n care value w = inside_upto n (care_in w) (value_in w) care value
relates_upto Meets n care value w = both_upto (λ d e. eqb d 2 || fits d e) meets refl (λ d e ds es. refl) n care value (care_in w) (value_in w)
relates_upto Contains n care value w = inside_upto n care value (care_in w) (value_in w)
relates_upto PointInside n care value w = has_upto n care value (point_in w)

pub digit_lt : (care value i : ℕ) → digit (bit care i) (bit value i) < 3
digit_lt care value i = bit_case2 (λ c v. digit c v < 3) (omega arith) (omega arith) (omega arith) (omega arith) (care / 2 ^ i) (value / 2 ^ i)
