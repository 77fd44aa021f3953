-- What a walk finds, and the definitions' searches.
use mathlib.Core.Path.{◌≡◌, refl, sym, ap, ap₂, ◌∙◌}
use mathlib.Core.Bool.{Bool, true, false, ◌&&◌}
use Rattle.std.specs.Prelude.{Option, None, Some}
use Prim.Native.Nat.{ℕ, ◌^◌, ◌≤◌, ◌<◌}
use native.Mathlib.Omega.{arith}
use native.Mathlib.Decide.{dec_lt}
use lib.Pow.{pow_mono}
use borrow.Author.Tests.{lt-ltb, le-ltb}
use Rattle.hazard.specs.Search.{first}
use Rattle.hazard.proofs.Test.{is, isnt}
use Rattle.hazard.proofs.Search.{First, nowhere, lowest, first-is}
use Rattle.cube.proofs.ByWords.{first_at, first-not}
use Rattle.points.specs.declared.walk.Walk.{Walk}
use Rattle.points.specs.Walk.{visits, lowest_on, Walks}
use Rattle.points.proofs.Masked.{and-false}

-- Two tests agree on the numbers below size, and no other number of ten bits passes the first.
pub record Agrees (test like : ℕ → Bool) (size : ℕ) : Type 0 where
  pub in' : (x : ℕ) → x < size → test x ≡ like x
  pub past : (x : ℕ) → size ≤ x → x < 1024 → test x ≡ false

-- Then they find the same.
pub first_agrees : {test like : ℕ → Bool} {size : ℕ} → Agrees test like size → size ≤ 1024 → first test 0 1024 ≡ first like 0 size
first_agrees {test} {like} {size} a l = go (first like 0 size) (first-is like 0 size)
  where
    go : (o : Option ℕ) → First like 0 size o → first test 0 1024 ≡ o
    go None (nowhere k) = sym (first-not test 1024 (λ y u. out y u (dec_lt y size)))
      where
        out : (y : ℕ) → y < 1024 → Dec (y < size) → test y ≡ false
        out y u (yes i) = a.in' y i ∙ isnt (like y) (k y (omega arith) (omega arith))
        out y u (no i) = a.past y (omega (arith, i)) u
    go (Some x) (lowest t b u k) = sym (first_at test x 1024 (a.in' x (omega arith) ∙ is {b = like x} t) (omega arith) (λ y i. a.in' y (omega arith) ∙ isnt (like y) (k y (omega arith) i)))

-- A walk over the points that pass a test.
pub walk_agrees : {n : ℕ} {k : Walk} {points : ℕ → Bool} → Walks n k points → n ≤ 10 → {test like : ℕ → Bool} → ((x : ℕ) → x < 2 ^ n → test x ≡ like x) → Agrees (λ x. visits k x && test x) (λ x. points x && like x) (2 ^ n)
walk_agrees {n} {k} {points} w few {test} {like} h =
    record {
      in' = λ x l. let u : x < 1024 = omega (arith, pow_mono {j = 10} few) in ap₂ ◌&&◌ (w.is x u ∙ ap (λ (b : Bool). points x && b) (lt-ltb x (2 ^ n) l) ∙ and-true (points x)) (h x l);
      past = λ x l u. ap (λ (b : Bool). b && test x) (w.is x u ∙ ap (λ (b : Bool). points x && b) (le-ltb x (2 ^ n) l) ∙ and-false (points x));
    }
  where
    and-true : (b : Bool) → (b && true) ≡ b
    and-true true = refl
    and-true false = refl

pub lowest_agrees : {n : ℕ} {k : Walk} {points : ℕ → Bool} → Walks n k points → n ≤ 10 → {test like : ℕ → Bool} → ((x : ℕ) → x < 2 ^ n → test x ≡ like x) → lowest_on k test ≡ first (λ x. points x && like x) 0 (2 ^ n)
unfolding lowest_on
lowest_agrees w few h = first_agrees (walk_agrees w few h) (pow_mono {j = 10} few)
