-- A product contains the cube exactly where the set of those that do has a row.
use mathlib.Core.Path.{◌≡◌, ap, ◌∙◌}
use mathlib.Core.Logic.{◌≢◌}
use mathlib.Core.Bool.{Bool, not, ◌&&◌}
use mathlib.Core.List.{List}
use Prim.Native.Nat.{ℕ, ◌+◌, ◌*◌, ◌/◌, ◌%◌, ◌^◌, ◌≤◌, ◌<◌}
use native.Mathlib.Nat.{zero-div}
use native.Mathlib.Omega.{arith}
use lib.Count.{count_trailing_zeros}
use lib.Dec.{T, eqb, eqb→eq, ltb, ltb→lt, lt→ltb}
use lib.ListN.{length, get_or, length-map}
use Rattle.hazard.specs.Search.{found, first}
use Rattle.hazard.specs.Cube.{bit, inside}
use Rattle.hazard.specs.Cover.{covered}
use Rattle.hazard.proofs.Search.{any_e, any_i}
use Rattle.hazard.proofs.Network.{covered_e, covered_i}
use Rattle.hazard.proofs.Test.{T_and, T_no, bool_ext, eqb_of}
use Rattle.cube.specs.Mask.{cube_of}
use Rattle.cube.specs.Entry.{cube_in, network_in}
use Rattle.cube.specs.PointSet.{in_set}
use Rattle.cube.specs.declared.mask.Cube as masks
use Rattle.cube.proofs.Networks.{product_in}
use Rattle.blocks.specs.Blocks.{allowed_to}
use Rattle.cube.proofs.LowestBit.{lowest-few, lowest_set}
use Rattle.conditions.specs.Rows.{Containing}

-- A set has a row where one of its words is not 0.
abbrev pub has_row : List ℕ → Bool
has_row rows = found (first (λ b. not (eqb (get_or rows b 0) 0)) 0 (length rows))

row_of : (rows : List ℕ) → ((b : ℕ) → get_or rows b 0 < 2 ^ 64) → T (has_row rows) → (k : ℕ) × (k < 64 * length rows) × T (in_set rows k)
row_of rows small t =
    let (b, l, u) = any_e (λ b. not (eqb (get_or rows b 0) 0)) (length rows) t in
    let ne : get_or rows b 0 ≢ 0 = λ e. (T_no (eqb (get_or rows b 0) 0)).0 u (eqb_of e) in
    let few = lowest-few (get_or rows b 0) (small b) ne in
    let k = 64 * b + count_trailing_zeros 64 (get_or rows b 0) in
    let q : k / 64 ≡ b = omega (arith, few) in
    let r : k % 64 ≡ count_trailing_zeros 64 (get_or rows b 0) = omega (arith, few) in
    (k, omega (arith, few, l), eqb_of {m = bit (get_or rows (k / 64) 0) (k % 64)} {n = 1} (rw (q, r) (lowest_set (get_or rows b 0) (small b) ne)))

has_row_of : (rows : List ℕ) (k : ℕ) → k < 64 * length rows → T (in_set rows k) → T (has_row rows)
has_row_of rows k l t =
    any_i (λ b. not (eqb (get_or rows b 0) 0)) (length rows) (k / 64) (omega arith) ((T_no (eqb (get_or rows (k / 64) 0) 0)).1 (λ u.
    let e = eqb→eq (get_or rows (k / 64) 0) 0 u in
    let f = eqb→eq (bit (get_or rows (k / 64) 0) (k % 64)) 1 t in
    omega (arith, f, ap (λ (y : ℕ). bit y (k % 64)) e, ap (λ (y : ℕ). y % 2) (zero-div (2 ^ (k % 64))))))

module _ (n : ℕ) (products columns whole rows : List ℕ) (c : masks.Cube) (r : ℕ) (t : Containing n products columns) (e : cube_of n c ≡ cube_in n r) (long : length rows ≡ length whole) (size : length products ≤ 64 * length whole)
    (h : (k : ℕ) → k < 64 * length whole → in_set whole k ≡ ltb k (length products)) (g : (k : ℕ) → k < 64 * length whole → in_set rows k ≡ (in_set whole k && allowed_to columns k c n)) (small : (b : ℕ) → get_or rows b 0 < 2 ^ 64) where
  test : (k : ℕ) → k < length products → allowed_to columns k c n ≡ inside (cube_in n r) (cube_in n (get_or products k 0))
  test k l = t.is k l c ∙ ap (λ x. inside x (cube_in n (get_or products k 0))) e

  pub covers-is : has_row rows ≡ covered (network_in n products) (cube_in n r)
  covers-is = bool_ext (has_row rows) (covered (network_in n products) (cube_in n r)) to from
    where
      to : T (has_row rows) → T (covered (network_in n products) (cube_in n r))
      to u =
          let (k, l, v) = row_of rows small u in
          let a : k < 64 * length whole = omega (arith, l, long) in
          let (x, y) = (T_and (in_set whole k) (allowed_to columns k c n)).0 (rw (g k a) at v) in
          let b = ltb→lt k (length products) (rw (h k a) at x) in
          covered_i (network_in n products) (cube_in n r) k (omega (arith, b, length-map products (cube_in n))) (rw (product_in n products k b) (rw (test k b) at y))

      from : T (covered (network_in n products) (cube_in n r)) → T (has_row rows)
      from u =
          let (k, l, v) = covered_e (network_in n products) (cube_in n r) u in
          let b : k < length products = omega (arith, l, length-map products (cube_in n)) in
          let a : k < 64 * length whole = omega (arith, b, size) in
          has_row_of rows k (omega (arith, a, long)) (rw (g k a) ((T_and (in_set whole k) (allowed_to columns k c n)).1 (rw (h k a) (lt→ltb k (length products) b), rw (test k b) (rw (product_in n products k b) at v))))
