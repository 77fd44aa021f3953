-- Moves of one input, bit by bit.
use mathlib.Core.Path.{◌≡◌, refl, sym, ap, ap₂, ◌∙◌, subst, subst⁻¹}
use mathlib.Core.Logic.{◌≢◌}
use mathlib.Core.Bool.{Bool, true, false, cond, ◌&&◌}
use mathlib.Core.List.{List}
use Prim.Native.Nat.{ℕ, zero, suc, ◌+◌, ◌-◌, ◌*◌, ◌/◌, ◌%◌, ◌^◌, ◌<◌}
use native.Mathlib.Nat.{mod-lt, mod-eq_of_lt, one-mul, add-zero, add_comm, lt_of_le_of_lt}
use native.Mathlib.Omega.{arith}
use native.Mathlib.Decide.{ℕ_discrete}
use lib.Dec.{T, eqb, ltb, eqb→eq, ltb→lt}
use lib.Bits.{bit_and, and_le_r}
use lib.ListN.{get_or}
use lib.Pow.{pow_pos, pow-add, pow-lt, shr-shr}
use borrow.Author.Tests.{eq-eqb, ne_eqb, eqb-true}
use Rattle.hazard.specs.Cube.{bit, flip}
use Rattle.hazard.proofs.Test.{T_and}
use Rattle.hazard.proofs.Point.{flip_up, flip_down, flip-lt}
use Rattle.cube.specs.PointSet.{in_set}
use Rattle.cube.proofs.WordMask.{high_bit, low_bit, mod-bit, no_bit, and_test}
use Rattle.points.specs.PointWord.{WordOf}
use Rattle.moves.specs.Further.{Side, Within, moves_from}
use Rattle.context.proofs.PlaneWord.{one-is}

-- All the numbers below size pass a test.
abbrev pub all : (ℕ → Bool) → ℕ → Bool
all test zero = true
all test (suc size) = test size && all test size

all_e : (test : ℕ → Bool) (size : ℕ) → T (all test size) → (k : ℕ) → k < size → T (test k)
all_e test zero t k h = absurd (omega arith)
all_e test (suc size) t k h =
    let p = (T_and (test size) (all test size)).0 t in
    elim (ℕ_discrete k size) [ yes e ↦ subst⁻¹ (λ (j : ℕ). T (test j)) e p.0 | no e ↦ all_e test size p.1 k (omega arith) ]

-- The rule of the table of sides, at entry j, as one test.
unfoldable pub is_side : ℕ → ℕ → Bool
is_side j m = all (λ k. eqb (bit m k) (cond (eqb (bit k (j / 2)) (j % 2)) 1 0)) 64 && ltb m (2 ^ 64)

side_is : (j m : ℕ) → T (is_side j m) → Side (j / 2) (j % 2) m
unfolding is_side
side_is j m t =
    let p = (T_and (all (λ k. eqb (bit m k) (cond (eqb (bit k (j / 2)) (j % 2)) 1 0)) 64) (ltb m (2 ^ 64))).0 t in
    record { small = ltb→lt m (2 ^ 64) p.1; bits = λ k l. eqb→eq (bit m k) (cond (eqb (bit k (j / 2)) (j % 2)) 1 0) (all_e (λ k. eqb (bit m k) (cond (eqb (bit k (j / 2)) (j % 2)) 1 0)) 64 p.0 k l) }

-- It holds at each entry.
pub side_of : (l : List ℕ) → T (all (λ j. is_side j (get_or l j 0)) 12) → (i v : ℕ) → i < 6 → v < 2 → Side i v (get_or l (2 * i + v) 0)
side_of l t i v h k =
    let p : (2 * i + v) / 2 ≡ i = omega arith in
    let q : (2 * i + v) % 2 ≡ v = omega arith in
    let s : Side ((2 * i + v) / 2) ((2 * i + v) % 2) (get_or l (2 * i + v) 0) = side_is (2 * i + v) (get_or l (2 * i + v) 0) (all_e (λ j. is_side j (get_or l j 0)) 12 t (2 * i + v) (omega arith)) in
    subst (λ (u : ℕ). Side i u (get_or l (2 * i + v) 0)) q (subst (λ (u : ℕ). Side u ((2 * i + v) % 2) (get_or l (2 * i + v) 0)) p s)

-- A point by its word and its bit: the inputs below 6.
module _ (x i : ℕ) (l : i < 6) where
  bit_in : bit x i ≡ bit (x % 64) i
  bit_in =
      let e : x ≡ x / 64 * 2 ^ 6 + x % 64 = omega arith in
      ap (λ (y : ℕ). bit y i) e ∙ low_bit (x / 64) 6 i l (mod-lt x (omega arith))

  flip_in : flip x i ≡ 64 * (x / 64) + flip (x % 64) i
  flip_in =
      elim (ℕ_discrete (bit x i) 0) [
        | yes e ↦ omega (arith, flip_up x i e, flip_up (x % 64) i (sym bit_in ∙ e))
        | no e ↦ omega (arith, flip_down x i e, flip_down (x % 64) i (λ z. e (bit_in ∙ z)))
      ]

  flip_in_word : flip x i / 64 ≡ x / 64
  flip_in_word = omega (arith, flip_in, flip-lt 6 (x % 64) i (mod-lt x (omega arith)) l)

  flip_in_bit : flip x i % 64 ≡ flip (x % 64) i
  flip_in_bit = omega (arith, flip_in, flip-lt 6 (x % 64) i (mod-lt x (omega arith)) l)

-- And those from 6 on.
module _ (x j : ℕ) where
  bit_out : bit x (j + 6) ≡ bit (x / 64) j
  bit_out = ap (λ (y : ℕ). y % 2) (ap (λ (k : ℕ). x / 2 ^ k) (add_comm j 6) ∙ sym (shr-shr x 6 j))

  weight : 2 ^ (j + 6) ≡ 64 * 2 ^ j
  weight = omega (arith, pow-add 2 j 6)

  flip_out : flip x (j + 6) ≡ 64 * flip (x / 64) j + x % 64
  flip_out =
      elim (ℕ_discrete (bit x (j + 6)) 0) [
        | yes e ↦ omega (arith, flip_up x (j + 6) e, flip_up (x / 64) j (sym bit_out ∙ e), weight)
        | no e ↦ omega (arith, flip_down x (j + 6) e, flip_down (x / 64) j (λ z. e (bit_out ∙ z)), weight)
      ]

  flip_out_word : flip x (j + 6) / 64 ≡ flip (x / 64) j
  flip_out_word = omega (arith, flip_out)

  flip_out_bit : flip x (j + 6) % 64 ≡ x % 64
  flip_out_bit = omega (arith, flip_out)

-- The shifted word, with the side on which input i has the value it moves from.
module _ (word i : ℕ) (l : i < 6) where
  few : 2 ^ i < 64
  few = pow-lt {i = i} {j = 6} l

  pub by_is : (1 * 2 ^ i) % 2 ^ 64 ≡ 2 ^ i
  by_is = ap (λ (y : ℕ). y % 2 ^ 64) (one-mul (2 ^ i)) ∙ mod-eq_of_lt (omega (arith, few))

  pub by_few : (1 * 2 ^ i) % 2 ^ 64 < 64
  by_few = omega (arith, by_is, few)

  -- The bits of two words of which the second is a side.
  sided : {m v : ℕ} (a k : ℕ) → Side i v m → k < 64 → eqb (bit (bit_and a m) k) 1 ≡ (eqb (bit k i) v && eqb (bit a k) 1)
  sided {m} {v} a k s h =
      and_test a m k
      ∙ ap (λ (b : Bool). b && eqb (bit a k) 1) (ap (λ (y : ℕ). eqb y 1) (s.bits k h) ∙ one-is (eqb (bit k i) v))

  -- Where the first test fails the second does not matter.
  under : (b : Bool) {c d : Bool} → (b ≡ true → c ≡ d) → (b && c) ≡ (b && d)
  under true h = h refl
  under false h = refl

  pub within-zero : {m : ℕ} → Side i 0 m → Within word i 0 (bit_and (word / 2 ^ (2 ^ i)) m)
  within-zero {m} s = record { small = lt_of_le_of_lt (and_le_r (word / 2 ^ (2 ^ i)) m) s.small; bits = λ k h. sided (word / 2 ^ (2 ^ i)) k s h ∙ under (eqb (bit k i) 0) (λ e. ap (λ (y : ℕ). eqb y 1) (go k e)) }
    where
      go : (k : ℕ) → eqb (bit k i) 0 ≡ true → bit (word / 2 ^ (2 ^ i)) k ≡ bit word (flip k i)
      go k e =
          ap (λ (y : ℕ). y % 2) (shr-shr word (2 ^ i) k)
          ∙ ap (bit word) (add_comm (2 ^ i) k ∙ sym (flip_up k i (eqb-true (bit k i) 0 e)))

  pub within-one : {m : ℕ} → Side i 1 m → Within word i 1 (bit_and ((word * 2 ^ (2 ^ i)) % 2 ^ 64) m)
  within-one {m} s = record { small = lt_of_le_of_lt (and_le_r ((word * 2 ^ (2 ^ i)) % 2 ^ 64) m) s.small; bits = λ k h. sided ((word * 2 ^ (2 ^ i)) % 2 ^ 64) k s h ∙ under (eqb (bit k i) 1) (λ e. ap (λ (y : ℕ). eqb y 1) (go k h e)) }
    where
      go : (k : ℕ) → k < 64 → eqb (bit k i) 1 ≡ true → bit ((word * 2 ^ (2 ^ i)) % 2 ^ 64) k ≡ bit word (flip k i)
      go k h e =
          let f = flip_down k i (λ z. omega (arith, eqb-true (bit k i) 1 e, z)) in
          let q : 64 ≡ suc (64 - (k + 1)) + k = omega arith in
          let p : k ≡ 2 ^ i + (k - 2 ^ i) = omega (arith, f) in
          let lift : bit (word * 2 ^ (2 ^ i)) k ≡ bit word (k - 2 ^ i) =
          ap₂ bit (sym (add-zero (word * 2 ^ (2 ^ i)))) p ∙ high_bit word (2 ^ i) (k - 2 ^ i) (pow_pos (2 ^ i)) in
          subst⁻¹ (λ (j : ℕ). bit ((word * 2 ^ (2 ^ i)) % 2 ^ j) k ≡ bit (word * 2 ^ (2 ^ i)) k) q (mod-bit (word * 2 ^ (2 ^ i)) (64 - (k + 1)) k)
          ∙ lift ∙ ap (bit word) (sym f.0)

-- The points of word w that a move of input i, from the value v, takes into the set.
module _ (set : List ℕ) (w v : ℕ) where
  pub within_word : {i r : ℕ} → i < 6 → Within (get_or set w 0) i v r → WordOf (moves_from (in_set set) v i) w r
  within_word {i} {r} l s = record { small = s.small; bits = λ x q. go x q }
    where
      go : (x : ℕ) → x / 64 ≡ w → eqb (bit r (x % 64)) 1 ≡ moves_from (in_set set) v i x
      go x q =
          s.bits (x % 64) (mod-lt x (omega arith))
          ∙ ap₂ ◌&&◌ (ap (λ (y : ℕ). eqb y v) (sym (bit_in x i l))) (ap₂ (λ (u k : ℕ). eqb (bit (get_or set u 0) k) 1) (sym (flip_in_word x i l ∙ q)) (sym (flip_in_bit x i l)))

  pub across_none : (j : ℕ) → bit w j ≢ v → WordOf (moves_from (in_set set) v (j + 6)) w 0
  across_none j ne = record { small = omega arith; bits = λ x q. ap (λ (y : ℕ). eqb y 1) (no_bit 0 (x % 64) refl) ∙ sym (ap (λ (b : Bool). b && in_set set (flip x (j + 6))) (ne_eqb (bit x (j + 6)) v (λ e. ne (ap (λ (y : ℕ). bit y j) (sym q) ∙ sym (bit_out x j) ∙ e)))) }

  pub across_here : (j : ℕ) → bit w j ≡ v → get_or set (flip w j) 0 < 2 ^ 64 → WordOf (moves_from (in_set set) v (j + 6)) w (get_or set (flip w j) 0)
  across_here j e h = record { small = h; bits = λ x q. go x q }
    where
      go : (x : ℕ) → x / 64 ≡ w → eqb (bit (get_or set (flip w j) 0) (x % 64)) 1 ≡ moves_from (in_set set) v (j + 6) x
      go x q =
          ap₂ (λ (u k : ℕ). eqb (bit (get_or set u 0) k) 1) (ap (λ (y : ℕ). flip y j) (sym q) ∙ sym (flip_out_word x j)) (sym (flip_out_bit x j))
          ∙ sym (ap (λ (b : Bool). b && in_set set (flip x (j + 6))) (eq-eqb (bit x (j + 6)) v (bit_out x j ∙ ap (λ (y : ℕ). bit y j) q ∙ e)))
