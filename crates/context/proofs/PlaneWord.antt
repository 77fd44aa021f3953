-- The words of a plane, bit by bit.
use mathlib.Core.Path.{◌≡◌, refl, sym, ap, ◌∙◌}
use mathlib.Core.Bool.{Bool, true, false, cond, ◌&&◌}
use mathlib.Core.List.{List, [], ◌∷◌, ◌++◌, reverse}
use Prim.Native.Nat.{ℕ, zero, suc, ◌+◌, ◌-◌, ◌*◌, ◌/◌, ◌%◌, ◌^◌, ◌≤◌, ◌<◌}
use Rattle.std.specs.Prelude.{min}
use native.Mathlib.Nat.{not-suc-le-zero, le_of_suc-le-suc, pow-suc, div-eq_of_lt, mod-eq_of_lt, lt_of_lt_of_le}
use native.Mathlib.Omega.{arith}
use native.Mathlib.Decide.{ℕ_discrete, dec_lt}
use mir.Val.{bool_byte}
use lib.Bits.{bit_or}
use lib.Dec.{eqb}
use lib.ListN.{length, get_or, set, length-set, take, drop, length-take, length-drop, get_or-eq_default}
use lib.Seq.{get_or-set_same, get_or-set_other, get_or-take, get_or-drop}
use lib.Pow.{pow_mono}
use borrow.Author.Tests.{lt-ltb, le-ltb}
use Rattle.std.proofs.lemmas.List.{length_push, length-reverse, reverse-append}
use Rattle.std.proofs.lemmas.Nat.{or_shifted}
use Rattle.hazard.specs.Cube.{bit}
use Rattle.hazard.specs.Transition.{value, off}
use Rattle.hazard.proofs.Point.{bit-zero, bit-suc}
use Rattle.cube.specs.PointSet.{in_set}
use Rattle.points.specs.PointWord.{WordOf}
use Rattle.context.specs.Planes.{valued, plane_word, Plane}

-- A test counts for at most one.
pub one-few : (b : Bool) → cond b 1 0 ≤ 1
one-few true = omega arith
one-few false = omega arith

pub one-is : (b : Bool) → eqb (cond b 1 0) 1 ≡ b
one-is true = refl
one-is false = refl

pub plane_lt : (v : ℕ) (f : List ℕ) → plane_word v f < 2 ^ length f
unfolding plane_word
plane_lt v [] = omega arith
plane_lt v (y ∷ f) = omega (arith, plane_lt v f, pow-suc 2 (length f), one-few (eqb y v))

bit_plane : (v : ℕ) (f : List ℕ) (i : ℕ) → i < length f → bit (plane_word v f) i ≡ cond (eqb (value f i) v) 1 0
unfolding plane_word
bit_plane v [] i l = absurd (not-suc-le-zero l)
bit_plane v (y ∷ f) zero l = bit-zero (plane_word v (y ∷ f)) ∙ omega (arith, one-few (eqb y v))
bit_plane v (y ∷ f) (suc i) l =
    let h : plane_word v (y ∷ f) / 2 ≡ plane_word v f = omega (arith, one-few (eqb y v)) in
    bit-suc (plane_word v (y ∷ f)) i ∙ ap (λ (b : ℕ). bit b i) h ∙ bit_plane v f i (le_of_suc-le-suc l)

-- A point more, where 64 are not passed.
pub plane_more : (v : ℕ) (f : List ℕ) (y a : ℕ) → (length f ≤ 64 → a ≡ plane_word v (reverse f)) → length (f ++ (y ∷ [])) ≤ 64
    → bit_or (a * 2 ^ 1 % 2 ^ 64) (bool_byte (eqb y v)) ≡ plane_word v (reverse (f ++ (y ∷ [])))
unfolding plane_word
plane_more v f y a h l =
    let shorter : length f < 64 = omega (arith, length_push f y) in
    let small : a < 2 ^ 63 = omega (arith, h (omega arith), plane_lt v (reverse f), length-reverse f, pow_mono {i = length (reverse f)} {j = 63} (omega (arith, length-reverse f))) in
    let room : a * 2 ^ 1 % 2 ^ 64 ≡ a * 2 ^ 1 = mod-eq_of_lt (omega arith) in
    rw (reverse-append f (y ∷ []), room, flag (eqb y v), or_shifted a 1 (cond (eqb y v) 1 0) (omega (arith, one-few (eqb y v))), h (omega arith)) refl
  where
    flag : (b : Bool) → bool_byte b ≡ cond b 1 0
    flag true = refl
    flag false = refl

-- A number has no bit past its size.
pub bit_past : (r m i : ℕ) → r < 2 ^ m → m ≤ i → bit r i ≡ 0
bit_past r m i h l = ap (λ (y : ℕ). y % 2) (div-eq_of_lt (lt_of_lt_of_le h (pow_mono l)))

-- A point of the table, and what is none.
pub valued_in : (f : List ℕ) (v x : ℕ) → x < length f → valued f v x ≡ eqb (value f x) v
valued_in f v x l = ap (λ (b : Bool). b && eqb (value f x) v) (lt-ltb x (length f) l)

pub valued_out : (f : List ℕ) (v x : ℕ) → length f ≤ x → valued f v x ≡ false
valued_out f v x l = ap (λ (b : Bool). b && eqb (value f x) v) (le-ltb x (length f) l)

-- A point of the table is in the plane of its value.
pub plane_in : {f : List ℕ} {v : ℕ} {words : List ℕ} → Plane f v words → (x : ℕ) → x < length f → in_set words x ≡ eqb (value f x) v
plane_in {f} {v} p x l = p.is x ∙ valued_in f v x l

-- The points of a block of 64 are those of the table in its word.
plane_block : (f : List ℕ) (v w : ℕ) → WordOf (valued f v) w (plane_word v (take 64 (drop (64 * w) f)))
plane_block f v w =
    record { small = lt_of_lt_of_le (plane_lt v block) (pow_mono {j = 64} (omega (arith, long))); bits = λ x q. go x q (dec_lt (x % 64) (length block)) }
  where
    block : List ℕ
    block = take 64 (drop (64 * w) f)

    long : length block ≡ min 64 (length f - 64 * w)
    long = omega (arith, length-take 64 (drop (64 * w) f), length-drop (64 * w) f)

    go : (x : ℕ) → x / 64 ≡ w → Dec (x % 64 < length block) → eqb (bit (plane_word v block) (x % 64)) 1 ≡ valued f v x
    go x q (yes i) =
        let e : 64 * w + x % 64 ≡ x = omega arith in
        ap (λ (b : ℕ). eqb b 1) (bit_plane v block (x % 64) i) ∙ one-is (eqb (value block (x % 64)) v)
        ∙ ap (λ (y : ℕ). eqb y v) (get_or-take 64 (drop (64 * w) f) (x % 64) 2 (omega arith) ∙ get_or-drop (64 * w) f (x % 64) 2 ∙ ap (value f) e)
        ∙ sym (valued_in f v x (omega (arith, i, long, e)))
    go x q (no i) =
        let e : 64 * w + x % 64 ≡ x = omega arith in
        ap (λ (b : ℕ). eqb b 1) (bit_past (plane_word v block) (length block) (x % 64) (plane_lt v block) (omega (arith, i))) ∙ sym (valued_out f v x (omega (arith, i, long, e)))

-- A loop over the blocks of a table: the words below w have the points with the value v, the others none.
pub record Filled (f : List ℕ) (v : ℕ) (words : List ℕ) (w : ℕ) : Type 0 where
  pub long : length words ≡ 16
  pub done : (x : ℕ) → x / 64 < w → in_set words x ≡ valued f v x
  pub rest : (x : ℕ) → w ≤ x / 64 → in_set words x ≡ false

pub filled_start : (f : List ℕ) (v : ℕ) {words : List ℕ} → length words ≡ 16 → ((x : ℕ) → in_set words x ≡ false) → Filled f v words 0
filled_start f v long h = record { long = long; done = λ x l. absurd (omega arith); rest = λ x l. h x }

module _ {f : List ℕ} {v : ℕ} {words : List ℕ} {w : ℕ} (s : Filled f v words w) where
  pub filled_more : w < 16 → {block : List ℕ} → block ≡ take 64 (drop (64 * w) f) → Filled f v (set words w (plane_word v block)) (w + 1)
  filled_more few {block} e = record { long = length-set words w (plane_word v block) ∙ s.long; done = λ x l. low x l (ℕ_discrete (x / 64) w); rest = λ x l. other x (λ q. omega (arith, q, l)) ∙ s.rest x (omega (arith, l)) }
    where
      other : (x : ℕ) → ¬ (x / 64 ≡ w) → in_set (set words w (plane_word v block)) x ≡ in_set words x
      other x ne = ap (λ (y : ℕ). eqb (bit y (x % 64)) 1) (get_or-set_other words w (x / 64) (plane_word v block) 0 ne)

      low : (x : ℕ) → x / 64 < w + 1 → Dec (x / 64 ≡ w) → in_set (set words w (plane_word v block)) x ≡ valued f v x
      low x l (yes q) =
          ap (λ (y : ℕ). eqb (bit y (x % 64)) 1) (ap (λ (u : ℕ). get_or (set words w (plane_word v block)) u 0) q ∙ get_or-set_same words w (plane_word v block) 0 (omega (arith, few, s.long)) ∙ ap (plane_word v) e)
          ∙ (plane_block f v w).bits x q
      low x l (no q) = other x q ∙ s.done x (omega (arith, q))

  pub filled_plane : length f ≤ 64 * w → Plane f v words
  filled_plane l = record { is = λ x. go x (dec_lt (x / 64) w) }
    where
      go : (x : ℕ) → Dec (x / 64 < w) → in_set words x ≡ valued f v x
      go x (yes i) = s.done x i
      go x (no i) = s.rest x (omega (arith, i)) ∙ sym (valued_out f v x (omega (arith, i, l)))

-- The points with the value 0 are the OFF-set.
pub plane_off : (f : List ℕ) (x : ℕ) → valued f 0 x ≡ off f x
plane_off f x =
    elim (dec_lt x (length f)) [
      | yes l ↦ valued_in f 0 x l
      | no l ↦ let q : value f x ≡ 2 = get_or-eq_default f 2 {n = x} (omega arith) in valued_out f 0 x (omega (arith, l)) ∙ ap (λ (v : ℕ). eqb v 0) (sym q)
    ]
