-- A product comes: the required cubes in it are flagged, and leave the set of those that are not.
use mathlib.Core.Path.{◌≡◌, refl, sym, ap, ◌∙◌}
use mathlib.Core.Bool.{Bool, true, false, not, cond, ◌&&◌, ◌||◌}
use mathlib.Core.List.{List, []}
use Prim.Native.Nat.{ℕ, ◌*◌, ◌≤◌, ◌<◌}
use native.Mathlib.Decide.{dec_lt}
use native.Mathlib.Omega.{arith}
use lib.Dec.{T, ltb, ltb→lt, lt→ltb}
use lib.ListN.{length, get_or, replicate}
use Rattle.hazard.specs.Cube.{inside}
use Rattle.hazard.proofs.Test.{T_and, is, isnt}
use Rattle.cube.specs.Mask.{cube_of}
use Rattle.cube.specs.Entry.{cube_in}
use Rattle.cube.specs.PointSet.{in_set}
use Rattle.cube.specs.declared.mask.Cube as masks
use Rattle.cube.proofs.Sweep.{all_same}
use Rattle.blocks.specs.Blocks.{allowed_to}
use Rattle.rows.specs.Sets.{Split}
use Rattle.flags.specs.Rows.{Inside}
use Rattle.flags.specs.Flag.{Flagged, Unflagged, Flagging}
use Rattle.flags.proofs.Placing.{past}

-- At first no flag is set,
pub flagged_start : (n : ℕ) (required : List ℕ) (size : ℕ) → Flagged n required (replicate size false) []
flagged_start n required size i l = all_same size i false

-- and the set holds every required cube.
pub unflagged_start : (size count : ℕ) (set : List ℕ) → count ≤ 64 * length set → ((k : ℕ) → k < 64 * length set → in_set set k ≡ ltb k count) → Unflagged count (replicate size false) set
unflagged_start size count set wide h i = row ∙ sym (ap (λ (b : Bool). ltb i count && not b) (all_same size i false) ∙ all (ltb i count))
  where
    all : (b : Bool) → (b && true) ≡ b
    all true = refl
    all false = refl

    row : in_set set i ≡ ltb i count
    row = elim (dec_lt i (64 * length set)) [
      | yes l ↦ h i l
      | no l ↦ past set i (omega (arith, l)) ∙ sym (isnt (ltb i count) (λ t. let m = ltb→lt i count t in omega (arith, m, l, wide)))
    ]

-- A row of the set is that of a required cube.
pub unflagged_low : (count : ℕ) (flags : List Bool) (set : List ℕ) → Unflagged count flags set → (i : ℕ) → T (in_set set i) → i < count
unflagged_low count flags set u i t = ltb→lt i count ((T_and (ltb i count) (not (get_or flags i false))).0 (rw (u i) at t)).0

-- A flag by the bit that was set for it, and what is left.
flag_bit : (old here : Bool) → cond (not old && here) true old ≡ (here || old)
flag_bit true true = refl
flag_bit true false = refl
flag_bit false true = refl
flag_bit false false = refl

left-bit : (low old here : Bool) → ((low && not old) && not here) ≡ (low && not (cond ((low && not old) && here) true old))
left-bit false old here = refl
left-bit true true here = refl
left-bit true false true = refl
left-bit true false false = refl

module _ {test : ℕ → Bool} {count : ℕ} {before after taken : List ℕ} {old new : List Bool} (f : Flagging test before after taken old new) (u : Unflagged count old before) (wide : count ≤ 64 * length before) where
  -- A row that is taken is that of a required cube whose flag was not set.
  pub taken_is : (i : ℕ) → i < count → in_set taken i ≡ (not (get_or old i false) && test i)
  taken_is i l = f.split'.took i (omega (arith, l, wide)) ∙ rw (u i, is {b = ltb i count} (lt→ltb i count l))

  -- A flag is set if it was, or if the row passes the test.
  pub flag_is : (i : ℕ) → i < count → get_or new i false ≡ (test i || get_or old i false)
  flag_is i l = f.is i ∙ ap (λ (b : Bool). cond b true (get_or old i false)) (taken_is i l) ∙ flag_bit (get_or old i false) (test i)

  -- Those whose flag is still not set are left.
  pub unflagged_next : length after ≡ length before → Unflagged count new after
  unflagged_next long i = elim (dec_lt i (64 * length before)) [
    | yes l ↦
        f.split'.left i l ∙ ap (λ (b : Bool). b && not (test i)) (u i) ∙ left-bit (ltb i count) (get_or old i false) (test i)
        ∙ sym (ap (λ (b : Bool). ltb i count && not b) (f.is i ∙ ap (λ (b : Bool). cond b true (get_or old i false)) (f.split'.took i l ∙ ap (λ (b : Bool). b && test i) (u i))))
    | no l ↦
        past after i (omega (arith, l, long)) ∙ sym (ap (λ (b : Bool). b && not (get_or new i false)) (isnt (ltb i count) (λ t. let m = ltb→lt i count t in omega (arith, m, l, wide))))
  ]

-- The rows of the columns are the required cubes, and the test is whether they lie in the product.
pub product_test : {n : ℕ} {required columns : List ℕ} → Inside n required columns → (c : masks.Cube) (w : ℕ) → cube_of n c ≡ cube_in n w
    → (i : ℕ) → i < length required → allowed_to columns i c n ≡ inside (cube_in n (get_or required i 0)) (cube_in n w)
product_test {n} {required} t c w e i l = t.is i l c ∙ ap (inside (cube_in n (get_or required i 0))) e

-- What is taken is part of the set.
pub taken-low : {test : ℕ → Bool} {before after taken : List ℕ} → Split test before after taken → (i : ℕ) → T (in_set taken i) → T (in_set before i)
taken-low {test} {before} {after} {taken} s i t = elim (dec_lt i (64 * length before)) [
  | yes l ↦ ((T_and (in_set before i) (test i)).0 (rw (s.took i l) at t)).0
  | no l ↦ absurd (rw (past taken i (omega (arith, l, s.long))) at t)
]
