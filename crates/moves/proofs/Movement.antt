-- A loop over the inputs at which two points differ.
use mathlib.Core.Path.{◌≡◌, refl, sym, ap, ◌∙◌, subst}
use mathlib.Core.Bool.{Bool, true, false, not, ◌&&◌, ◌||◌, or-false}
use mathlib.Core.List.{List, ◌∷◌}
use Prim.Native.Nat.{ℕ, zero, suc, ◌+◌, ◌*◌, ◌/◌, ◌%◌, ◌^◌, ◌≤◌, ◌<◌}
use native.Mathlib.Nat.{mod-eq_of_lt}
use native.Mathlib.Decide.{dec_lt}
use native.Mathlib.Omega.{arith}
use lib.Dec.{T, eqb}
use lib.Bits.{bit_or, bit_xor, or_shr, or_lt, xor_lt}
use lib.Pow.{pow_mono}
use Rattle.std.specs.Int.Count.{count_trailing_zeros}
use mathlib.Core.Logic.{◌≢◌}
use Rattle.std.specs.Prelude.{Some}
use Rattle.std.specs.List.{list_any, AllByRecursion}
use Rattle.hazard.specs.Search.{found, first, those}
use Rattle.hazard.specs.Cube.{bit, flip}
use Rattle.hazard.proofs.Test.{bool_ext, T_and}
use Rattle.hazard.proofs.Search.{any_e, any_i}
use Rattle.cube.proofs.Bits.{bit_case2, or_last}
use Rattle.cube.proofs.WordMask.{no_bit, xor-bits}
use Rattle.points.specs.PointWord.{WordOf, points_in}
use Rattle.points.proofs.Masked.{and_assoc}
use Rattle.points.proofs.Members.{points_below, points_more, points_none}
use Rattle.moves.specs.Further.{moves_from, moves_into, further_in}
use Rattle.context.proofs.PlaneWord.{bit_past}

or-bits : (a b i : ℕ) → bit (bit_or a b) i ≡ bit_or (bit a i) (bit b i)
or-bits a b i = ap (λ (y : ℕ). y % 2) (or_shr a b i) ∙ or_last (a / 2 ^ i) (b / 2 ^ i)

either_bit : (a b : ℕ) → eqb (bit_or (a % 2) (b % 2)) 1 ≡ (eqb (a % 2) 1 || eqb (b % 2) 1)
either_bit = bit_case2 (λ a b. eqb (bit_or a b) 1 ≡ (eqb a 1 || eqb b 1)) refl refl refl refl

-- One of those that pass the first test passes the second, where a number passes both.
any_those : (p t : ℕ → Bool) (from size : ℕ) → list_any t (those p from size) ≡ found (first (λ i. p i && t i) from size)
any_those p t from zero = refl
any_those p t from (suc size) = go (p from) (t from) refl (any_those p t (suc from) size)
  where
    rest : List ℕ
    rest = those p (suc from) size

    go : (b c : Bool) → t from ≡ c → list_any t rest ≡ found (first (λ i. p i && t i) (suc from) size)
        → list_any t (elim b [ true ↦ from ∷ rest | false ↦ rest ]) ≡ found (elim (b && c) [ true ↦ Some from | false ↦ first (λ i. p i && t i) (suc from) size ])
    go true true e ih = ap (λ (d : Bool). d || list_any t rest) e
    go true false e ih = ap (λ (d : Bool). d || list_any t rest) e ∙ ih
    go false c e ih = ih

-- Where a and b differ, a move from the value at a is one on the way from a to b.
differ_is : (a b i : ℕ) → eqb (bit (bit_xor a b) i) 1 ≡ not (eqb (bit a i) (bit b i))
differ_is a b i = ap (λ (y : ℕ). eqb y 1) (xor-bits a b i) ∙ bit_case2 (λ u v. eqb (bit_xor u v) 1 ≡ not (eqb u v)) refl refl refl refl (a / 2 ^ i) (b / 2 ^ i)

module _ {n : ℕ} (few : n ≤ 10) (set : ℕ → Bool) {a b : ℕ} (h : a < 2 ^ n) (l : b < 2 ^ n) where
  past : (i : ℕ) → n ≤ i → eqb (bit (bit_xor a b) i) 1 ≡ false
  past i g = ap (λ (y : ℕ). eqb y 1) (bit_past (bit_xor a b) n i (xor_lt n a b h l) g)

  pub inputs_below : AllByRecursion (λ i. i < n) (points_in 0 (bit_xor a b))
  inputs_below = points_below (record { none = λ i q g. ap (λ (k : ℕ). eqb (bit (bit_xor a b) k) 1) (mod-eq_of_lt (omega (arith, q))) ∙ past i g })

  module _ (x : ℕ) where
    same : (i : ℕ) → i < 64 → (eqb (bit (bit_xor a b) (i % 64)) 1 && moves_from set (bit a i) i x) ≡ moves_into set a b i x
    same i u =
        ap (λ (k : ℕ). eqb (bit (bit_xor a b) k) 1 && moves_from set (bit a i) i x) (mod-eq_of_lt u)
        ∙ ap (λ (d : Bool). d && moves_from set (bit a i) i x) (differ_is a b i) ∙ sym (and_assoc (not (eqb (bit a i) (bit b i))) (eqb (bit x i) (bit a i)) (set (flip x i)))

    to : T (found (first (λ i. eqb (bit (bit_xor a b) (i % 64)) 1 && moves_from set (bit a i) i x) 0 64)) → T (further_in n set a b x)
    to p =
        let (i, u, q) = any_e (λ i. eqb (bit (bit_xor a b) (i % 64)) 1 && moves_from set (bit a i) i x) 64 p in
        elim (dec_lt i n) [
          | yes v ↦ any_i (λ j. moves_into set a b j x) n i v (subst T (same i u) q)
          | no v ↦ absurd (subst T (ap (λ (k : ℕ). eqb (bit (bit_xor a b) k) 1) (mod-eq_of_lt u) ∙ past i (omega (arith, v))) ((T_and (eqb (bit (bit_xor a b) (i % 64)) 1) (moves_from set (bit a i) i x)).0 q).0)
        ]

    from : T (further_in n set a b x) → T (found (first (λ i. eqb (bit (bit_xor a b) (i % 64)) 1 && moves_from set (bit a i) i x) 0 64))
    from p =
        let (i, u, q) = any_e (λ j. moves_into set a b j x) n p in
        any_i (λ i. eqb (bit (bit_xor a b) (i % 64)) 1 && moves_from set (bit a i) i x) 64 i (omega (arith, u, few)) (subst T (sym (same i (omega (arith, u, few)))) q)

    inputs_move : list_any (λ i. moves_from set (bit a i) i x) (points_in 0 (bit_xor a b)) ≡ further_in n set a b x
    unfolding points_in
    inputs_move = any_those (λ i. eqb (bit (bit_xor a b) (i % 64)) 1) (λ i. moves_from set (bit a i) i x) 0 64 ∙ bool_ext _ _ to from

-- The points of word w whose moves were looked at, and those of the inputs that are left, as the members of a word: together all that have a
-- move further.
pub record Moving (n : ℕ) (set : ℕ → Bool) (a b w left r : ℕ) : Type 0 where
  pub small : r < 2 ^ 64
  pub fits : left < 2 ^ 64
  pub below : AllByRecursion (λ i. i < n) (points_in 0 left)
  pub all : (x : ℕ) → x / 64 ≡ w → (eqb (bit r (x % 64)) 1 || list_any (λ i. moves_from set (bit a i) i x) (points_in 0 left)) ≡ further_in n set a b x

pub moving_start : {n : ℕ} → n ≤ 10 → (set : ℕ → Bool) {a b : ℕ} (w : ℕ) → a < 2 ^ n → b < 2 ^ n → Moving n set a b w (bit_xor a b) 0
moving_start {n} few set {a} {b} w h l =
    record {
      small = omega arith;
      fits = omega (arith, xor_lt n a b h l, pow_mono {i = n} {j = 64} (omega (arith, few)));
      below = inputs_below few set h l;
      all = λ x q. ap (λ (y : ℕ). eqb y 1 || list_any (λ i. moves_from set (bit a i) i x) (points_in 0 (bit_xor a b))) (no_bit 0 (x % 64) refl) ∙ inputs_move few set h l x;
    }

or-assoc : (a b c : Bool) → ((a || b) || c) ≡ (a || (b || c))
or-assoc true b c = refl
or-assoc false b c = refl

module _ {n : ℕ} {set : ℕ → Bool} {a b w left r : ℕ} (s : Moving n set a b w left r) where
  -- The lowest of the inputs that are left, and the others.
  module _ {i next : ℕ} (ne : left ≢ 0) (is : i ≡ count_trailing_zeros 64 left) (after : next ≡ flip left i) where
    split : points_in 0 left ≡ i ∷ points_in 0 next
    split =
        let e : 64 * 0 + count_trailing_zeros 64 left ≡ count_trailing_zeros 64 left = omega arith in
        rw (after, is) (subst (λ (k : ℕ). points_in 0 left ≡ k ∷ points_in 0 (flip left (count_trailing_zeros 64 left))) e (points_more 0 left s.fits ne))

    below_all : AllByRecursion (λ j. j < n) (i ∷ points_in 0 next)
    below_all = subst (AllByRecursion (λ j. j < n)) split s.below

    pub moving_input : i < n
    moving_input = below_all.0

    pub moving_more : next < left → {q : ℕ} → WordOf (moves_from set (bit a i) i) w q → Moving n set a b w next (bit_or r q)
    moving_more less {q} p =
        record {
          small = or_lt 64 r q s.small p.small;
          fits = omega (arith, less, s.fits);
          below = below_all.1;
          all = λ x g. let tail = list_any (λ j. moves_from set (bit a j) j x) (points_in 0 next) in
              ap (λ (c : Bool). c || tail) (ap (λ (y : ℕ). eqb y 1) (or-bits r q (x % 64)) ∙ either_bit (r / 2 ^ (x % 64)) (q / 2 ^ (x % 64)) ∙ ap (λ (c : Bool). eqb (bit r (x % 64)) 1 || c) (p.bits x g))
              ∙ or-assoc (eqb (bit r (x % 64)) 1) (moves_from set (bit a i) i x) tail ∙ ap (λ (m : List ℕ). eqb (bit r (x % 64)) 1 || list_any (λ j. moves_from set (bit a j) j x) m) (sym split) ∙ s.all x g;
        }

  pub moving_end : left ≡ 0 → WordOf (further_in n set a b) w r
  moving_end e =
      record {
        small = s.small;
        bits = λ x q. sym (or-false (eqb (bit r (x % 64)) 1)) ∙ ap (λ (m : List ℕ). eqb (bit r (x % 64)) 1 || list_any (λ j. moves_from set (bit a j) j x) m) (sym (ap (points_in 0) e ∙ points_none 0)) ∙ s.all x q;
      }
