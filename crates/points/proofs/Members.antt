-- The points that pass a test, word by word.
use mathlib.Core.Path.{◌≡◌, refl, sym, ap, ap₂, ◌∙◌}
use mathlib.Core.Logic.{◌≢◌}
use mathlib.Core.Bool.{Bool, true, false, ◌&&◌}
use mathlib.Core.List.{List, [], ◌∷◌, ◌++◌, append-nil}
use Prim.Native.Nat.{ℕ, zero, suc, ◌+◌, ◌-◌, ◌*◌, ◌/◌, ◌%◌, ◌^◌, ◌≤◌, ◌<◌}
use native.Mathlib.Nat.{add-zero, zero-add}
use native.Mathlib.Numerals.{add-one}
use native.Mathlib.Decide.{ℕ_discrete, dec_lt}
use native.Mathlib.Omega.{arith}
use lib.Dec.{eqb}
use lib.Count.{count_trailing_zeros}
use borrow.Author.Tests.{eq-eqb}
use Rattle.std.specs.List.{AllByRecursion}
use Rattle.hazard.specs.Search.{those}
use Rattle.hazard.specs.Cube.{bit, flip}
use Rattle.hazard.proofs.Test.{so_not}
use Rattle.hazard.proofs.Point.{flip-same, flip-other}
use Rattle.cube.proofs.Scan.{left, those_skip}
use Rattle.cube.proofs.ByWords.{Lowest, lowest-bit}
use Rattle.cube.proofs.WordMask.{no_bit}
use Rattle.points.specs.PointWord.{WordOf, points_in, Below}
use Rattle.points.specs.declared.walk.Walk.{Walk}
use Rattle.points.specs.declared.walk.Step.{Step}
use Rattle.points.specs.Walk.{visits, Steps}
use Rattle.points.proofs.Masked.{true-false}
use Rattle.points.proofs.Looking.{visit_gap}
use Rattle.points.proofs.Agree.{Agrees}

-- Tests that agree give the same list, ranges one after the other give lists one after the other, and where none passes there is none.
pub those-same : (s t : ℕ → Bool) (from size : ℕ) → ((x : ℕ) → from ≤ x → x < from + size → s x ≡ t x) → those s from size ≡ those t from size
those-same s t from zero h = refl
those-same s t from (suc size) h = go (s from) (t from) (h from (omega arith) (omega arith)) (those-same s t (suc from) size (λ x a b. h x (omega arith) (omega arith)))
  where
    go : (b c : Bool) → b ≡ c → those s (suc from) size ≡ those t (suc from) size
        → ◌≡◌ {A = List ℕ} (elim b [ true ↦ from ∷ those s (suc from) size | false ↦ those s (suc from) size ]) (elim c [ true ↦ from ∷ those t (suc from) size | false ↦ those t (suc from) size ])
    go true true e ih = ap (λ (l : List ℕ). from ∷ l) ih
    go true false e ih = absurd (true-false e)
    go false true e ih = absurd (true-false (sym e))
    go false false e ih = ih

those_split : (t : ℕ → Bool) (from a b : ℕ) → those t from (a + b) ≡ those t from a ++ those t (from + a) b
those_split t from zero b = rw (zero-add, add-zero)
those_split t from (suc a) b =
    let e : suc a + b ≡ suc (a + b) = omega arith in
    let q : from + suc a ≡ suc from + a = omega arith in
    rw (e, q) (go (t from) (those_split t (suc from) a b))
  where
    go : (c : Bool) → those t (suc from) (a + b) ≡ those t (suc from) a ++ those t (suc from + a) b
        → ◌≡◌ {A = List ℕ} (elim c [ true ↦ from ∷ those t (suc from) (a + b) | false ↦ those t (suc from) (a + b) ]) (elim c [ true ↦ from ∷ those t (suc from) a | false ↦ those t (suc from) a ] ++ those t (suc from + a) b)
    go true ih = ap (λ (l : List ℕ). from ∷ l) ih
    go false ih = ih

pub those-none : (t : ℕ → Bool) (from size : ℕ) → ((x : ℕ) → from ≤ x → x < from + size → t x ≡ false) → those t from size ≡ []
those-none t from zero h = refl
those-none t from (suc size) h = go (t from) (h from (omega arith) (omega arith)) (those-none t (suc from) size (λ x a b. h x (omega arith) (omega arith)))
  where
    go : (b : Bool) → b ≡ false → those t (suc from) size ≡ [] → ◌≡◌ {A = List ℕ} (elim b [ true ↦ from ∷ those t (suc from) size | false ↦ those t (suc from) size ]) []
    go true e ih = absurd (true-false e)
    go false e ih = ih

-- What holds of each number that passes holds of each number of the list.
those_all : (P : ℕ → Type 0) (t : ℕ → Bool) (from size : ℕ) → ((x : ℕ) → from ≤ x → x < from + size → t x ≡ true → P x) → AllByRecursion P (those t from size)
those_all P t from zero h = tt
those_all P t from (suc size) h = go (t from) (h from (omega arith) (omega arith)) (those_all P t (suc from) size (λ x a b. h x (omega arith) (omega arith)))
  where
    go : (b : Bool) → (b ≡ true → P from) → AllByRecursion P (those t (suc from) size) → AllByRecursion P (elim b [ true ↦ from ∷ those t (suc from) size | false ↦ those t (suc from) size ])
    go true e ih = (e refl, ih)
    go false e ih = ih

-- The points of the words from w on that pass.
unfoldable pub ahead : (ℕ → Bool) → ℕ → List ℕ
ahead test w = those test (64 * w) (1024 - 64 * w)

-- Words without points that pass may be skipped.
ahead_skip : {test : ℕ → Bool} (w v : ℕ) → w ≤ v → ((x : ℕ) → w ≤ x / 64 → x / 64 < v → x / 64 < 16 → test x ≡ false) → ahead test w ≡ ahead test v
unfolding ahead
ahead_skip {test} w v l h = those_skip test 1024 (64 * v - 64 * w) (64 * w) (64 * v) (omega arith) (λ x a b u. so_not (h x (omega arith) (omega arith) (omega arith)))

ahead_all : {test like : ℕ → Bool} {size : ℕ} → Agrees test like size → size ≤ 1024 → ahead test 0 ≡ those like 0 size
unfolding ahead
ahead_all {test} {like} {size} a h =
    let e : 1024 ≡ size + (1024 - size) = omega arith in
    ap (those test 0) e ∙ those_split test 0 size (1024 - size)
    ∙ ap₂ (λ (l m : List ℕ). l ++ m) (those-same test like 0 size (λ x u l. a.in' x (omega arith))) (those-none test (0 + size) (1024 - size) (λ x u l. a.past x (omega arith) (omega arith)))
    ∙ append-nil (those like 0 size)

pub ahead_word : {test : ℕ → Bool} {w r : ℕ} → WordOf test w r → w < 16 → ahead test w ≡ points_in w r ++ ahead test (w + 1)
unfolding ahead points_in
ahead_word {test} {w} {r} s h =
    let e : 1024 - 64 * w ≡ 64 + (1024 - 64 * (w + 1)) = omega arith in
    let q : 64 * w + 64 ≡ 64 * (w + 1) = omega arith in
    ap (those test (64 * w)) e ∙ those_split test (64 * w) 64 (1024 - 64 * (w + 1))
    ∙ ap₂ (λ (l m : List ℕ). l ++ m) (those-same test (λ x. eqb (bit r (x % 64)) 1) (64 * w) 64 (λ x u l. sym (s.bits x (omega arith)))) (ap (λ (k : ℕ). those test k (1024 - 64 * (w + 1))) q)

-- A walk over the points of a cube.
pub ahead_start : {k : Walk} {s : Step} → Steps k 0 s → (test : ℕ → Bool) {like : ℕ → Bool} {size : ℕ} → Agrees (λ x. visits k x && test x) like size → size ≤ 1024 → ahead (λ x. visits k x && test x) s.word ≡ those like 0 size
ahead_start {s = s} t test a l = sym (ahead_skip 0 s.word (omega arith) (λ x u v i. visit_gap t test x u v i)) ∙ ahead_all a l

pub ahead_more : {k : Walk} (w : ℕ) {t : Step} → Steps k (w + 1) t → (test : ℕ → Bool) {r : ℕ} → WordOf (λ x. visits k x && test x) w r → w < 16 → ahead (λ x. visits k x && test x) w ≡ points_in w r ++ ahead (λ x. visits k x && test x) t.word
ahead_more {k} w {t} q test {r} p l = ahead_word p l ∙ ap (λ (m : List ℕ). points_in w r ++ m) (ahead_skip (w + 1) t.word q.later (λ x a b u. visit_gap q test x a b u))

pub ahead_end : (test : ℕ → Bool) (w : ℕ) → 16 ≤ w → ahead test w ≡ []
unfolding ahead
ahead_end test w h = let e : 1024 - 64 * w ≡ 0 = omega arith in rw e

pub below_of : {test like : ℕ → Bool} {size w r : ℕ} → Agrees test like size → w < 16 → WordOf test w r → Below size w r
below_of a h s = record { none = λ x q l. s.bits x q ∙ a.past x l (omega arith) }

pub points_none : (w : ℕ) → points_in w 0 ≡ []
unfolding points_in
points_none w = those-none (λ x. eqb (bit 0 (x % 64)) 1) (64 * w) 64 (λ x a b. ap (λ (k : ℕ). eqb k 1) (no_bit 0 (x % 64) refl))

-- The points of a word whose points are all below size.
pub points_below : {size w r : ℕ} → Below size w r → AllByRecursion (λ x. x < size) (points_in w r)
unfolding points_in
points_below {size} {w} {r} s = those_all (λ x. x < size) (λ x. eqb (bit r (x % 64)) 1) (64 * w) 64 (λ x a b e. elim (dec_lt x size) [ yes l ↦ l | no l ↦ absurd (true-false (sym e ∙ s.none x (omega arith) (omega arith))) ])

-- The lowest that passes, and those above it.
those_hit : (t : ℕ → Bool) (m gap from to : ℕ) → from + gap ≡ to → to < m → t to ≡ true → ((z : ℕ) → from ≤ z → z < to → t z ≡ false) → those t from (m - from) ≡ to ∷ those t (to + 1) (m - (to + 1))
those_hit t m gap from to e l h below = those_skip t m gap from to e (λ z a b c. so_not (below z a b)) ∙ rw (left m to l, h, those, ← add-one to)

-- The lowest point, and the points without its bit.
module _ (w r : ℕ) (h : r < 2 ^ 64) (ne : r ≢ 0) where
  low : Lowest 64 r (count_trailing_zeros 64 r)
  low = lowest-bit 64 r h ne

  abbrev at : ℕ
  at = 64 * w + count_trailing_zeros 64 r

  abbrev p : ℕ → Bool
  p x = eqb (bit r (x % 64)) 1

  abbrev q : ℕ → Bool
  q x = eqb (bit (flip r (count_trailing_zeros 64 r)) (x % 64)) 1

  size : 64 * w + 64 - 64 * w ≡ 64
  size = omega arith

  at_bit : at % 64 ≡ count_trailing_zeros 64 r
  at_bit = omega (arith, low.inside)

  -- Below the lowest bit there is none, and the lowest is cleared.
  lower : (z : ℕ) → 64 * w ≤ z → z < at + 1 → q z ≡ false
  lower z a b =
      elim (ℕ_discrete (z % 64) (count_trailing_zeros 64 r)) [
        | yes e ↦ ap (λ (k : ℕ). eqb k 1) (ap (bit (flip r (count_trailing_zeros 64 r))) e ∙ flip-same r (count_trailing_zeros 64 r) ∙ ap (λ (k : ℕ). 1 - k) low.set)
        | no e ↦ ap (λ (k : ℕ). eqb k 1) (flip-other r (count_trailing_zeros 64 r) (z % 64) (λ g. e (sym g)) ∙ low.least (z % 64) (omega (arith, low.inside, e)))
      ]

  pub points_more : points_in w r ≡ (64 * w + count_trailing_zeros 64 r) ∷ points_in w (flip r (count_trailing_zeros 64 r))
  unfolding points_in
  points_more =
      ap (those p (64 * w)) (sym size)
      ∙ those_hit p (64 * w + 64) (count_trailing_zeros 64 r) (64 * w) at refl (omega (arith, low.inside)) (eq-eqb (bit r (at % 64)) 1 (ap (bit r) at_bit ∙ low.set)) (λ z a b. ap (λ (k : ℕ). eqb k 1) (low.least (z % 64) (omega (arith, low.inside))))
      ∙ ap (λ (l : List ℕ). at ∷ l)
      (those-same p q (at + 1) (64 * w + 64 - (at + 1)) (λ x a b. ap (λ (k : ℕ). eqb k 1) (sym (flip-other r (count_trailing_zeros 64 r) (x % 64) (λ e. omega (arith, low.inside)))))
      ∙ sym (those_skip q (64 * w + 64) (count_trailing_zeros 64 r + 1) (64 * w) (at + 1) (omega arith) (λ z a b c. so_not (lower z a b)))
      ∙ ap (those q (64 * w)) size)
