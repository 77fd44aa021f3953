-- What a set of rows says of the rows: none passes the test, or the lowest is the first that does.
use mathlib.Core.Path.{◌≡◌, refl, sym, ap, ◌∙◌}
use mathlib.Core.Logic.{◌≢◌}
use mathlib.Core.Bool.{Bool, true, false, ◌&&◌}
use mathlib.Core.List.{List, [], ◌∷◌, map}
use Rattle.std.specs.Prelude.{None, Some}
use Prim.Native.Nat.{ℕ, zero, suc, ◌^◌, ◌≤◌, ◌<◌}
use native.Mathlib.Nat.{not-suc-le-zero, le_of_suc-le-suc}
use native.Mathlib.Omega.{arith}
use lib.Count.{count_trailing_zeros}
use lib.Dec.{T, eqb, ltb, lt→ltb}
use lib.ListN.{length, get_or}
use Rattle.hazard.specs.Cube.{bit}
use Rattle.hazard.specs.Search.{find}
use Rattle.hazard.proofs.Test.{is, so, tests}
use Rattle.cube.proofs.WordMask.{no_bit}
use Rattle.cube.proofs.ByWords.{Lowest, lowest-bit}
use Rattle.legality.specs.Rows.{Rows}

find_at : {A : Type 0} (test : A → Bool) (f : ℕ → A) (rows : List ℕ) (z : ℕ) → z < length rows → test (f (get_or rows z 0)) ≡ true
    → ((j : ℕ) → j < z → test (f (get_or rows j 0)) ≡ false) → Some (f (get_or rows z 0)) ≡ find test (map f rows)
find_at test f [] z l e h = absurd (not-suc-le-zero l)
find_at test f (w ∷ rows) zero l e h = rw (e, find)
find_at test f (w ∷ rows) (suc z) l e h =
    let m : test (f w) ≡ false = h 0 (omega arith) in
    rw (m, find) (find_at test f rows z (le_of_suc-le-suc l) e (λ j i. h (suc j) (omega arith)))

find_nowhere : {A : Type 0} (test : A → Bool) (f : ℕ → A) (rows : List ℕ) → ((j : ℕ) → j < length rows → test (f (get_or rows j 0)) ≡ false) → None ≡ find test (map f rows)
find_nowhere test f [] h = refl
find_nowhere test f (w ∷ rows) h =
    let m : test (f w) ≡ false = h 0 (omega arith) in
    rw (m, find) (find_nowhere test f rows (λ j i. h (suc j) (omega arith)))

module _ {A : Type 0} (test : A → Bool) (f : ℕ → A) {rows : List ℕ} {r : ℕ} (s : Rows (λ w. test (f w)) rows r) (few : length rows ≤ 64) where
  -- Of a row the test alone counts.
  row_test : (k : ℕ) {b : Bool} → k < length rows → eqb (bit r k) 1 ≡ b → test (f (get_or rows k 0)) ≡ b
  row_test k l e = sym (s.is k (omega arith) ∙ ap (λ (t : Bool). t && test (f (get_or rows k 0))) (is {b = ltb k (length rows)} (lt→ltb k (length rows) l))) ∙ e

  pub rows_find-none : r ≡ 0 → None ≡ find test (map f rows)
  rows_find-none e = find_nowhere test f rows (λ k l. row_test k l (ap (λ (b : ℕ). eqb b 1) (no_bit r k e)))

  module _ (small : r < 2 ^ 64) (ne : r ≢ 0) where
    lowest : Lowest 64 r (count_trailing_zeros 64 r)
    lowest = lowest-bit 64 r small ne

    in_set_lem : eqb (bit r (count_trailing_zeros 64 r)) 1 ≡ true
    in_set_lem = ap (λ (b : ℕ). eqb b 1) lowest.set

    pub rows_find-low : count_trailing_zeros 64 r < length rows
    rows_find-low =
        let t : T (ltb (count_trailing_zeros 64 r) (length rows) && test (f (get_or rows (count_trailing_zeros 64 r) 0))) = so (sym (s.is (count_trailing_zeros 64 r) lowest.inside) ∙ in_set_lem) in
        (simp tests at t).0

    pub rows_find : Some (f (get_or rows (count_trailing_zeros 64 r) 0)) ≡ find test (map f rows)
    rows_find =
        find_at test f rows (count_trailing_zeros 64 r) rows_find-low (row_test (count_trailing_zeros 64 r) rows_find-low in_set_lem)
        (λ j h. row_test j (omega (arith, rows_find-low)) (ap (λ (b : ℕ). eqb b 1) (lowest.least j h)))
