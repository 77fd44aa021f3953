-- Loops that gather a whole set: what a turn adds, and the invariant of a walk that stores.
use mathlib.Core.Path.{◌≡◌, refl, sym, ap, ◌∙◌}
use mathlib.Core.Bool.{Bool, true, false, cond, ◌&&◌}
use mathlib.Core.List.{List, [], ◌∷◌, ◌++◌, map, map-append}
use Prim.Native.Nat.{ℕ, suc, ◌+◌, ◌-◌, ◌≤◌, ◌<◌}
use native.Mathlib.Nat.{sub-eq-zero_of_le}
use native.Mathlib.Numerals.{add-one}
use native.Mathlib.Omega.{arith}
use lib.ListN.{length, take, length-append, length-map}
use lib.Seq.{take_all}
use Rattle.hazard.specs.Search.{those}
use Rattle.hazard.specs.Transition.{Kind, low, rise, fall, high, start, end, count}
use Rattle.hazard.specs.Sets.{Privileged, labels, dynamic, start_point, kind_at, required_of, required_from, privileged_from}
use Rattle.cube.proofs.Scan.{left}
use Rattle.points.specs.PointWord.{WordOf, masked, points_in, Below}
use Rattle.points.specs.declared.walk.Walk.{Walk}
use Rattle.points.specs.declared.walk.Step.{Step}
use Rattle.points.specs.Walk.{visits, At, Steps}
use Rattle.points.proofs.Looking.{visit_word}
use Rattle.points.proofs.Agree.{Agrees}
use Rattle.points.proofs.Members.{ahead, ahead_word, ahead_start, ahead_more, ahead_end, below_of}
use Rattle.entries.specs.Store.{Stored, required_to}
use Rattle.entries.proofs.Filling.{Filling, filling_start, filling_more, filling_room, filling_end, stored_none}
use Rattle.sets.specs.Held.{Held, required_by, privileged_by}

-- The required cubes of a transition of a known kind.
pub by_size : (n : ℕ) (f : List ℕ) (t a b : ℕ) {k κ : Kind} → k ≡ κ → length (required_by n f k t a b) ≡ length (labels n f κ a b)
by_size n f t a b {k} e = length-map (labels n f k a b) (required_to n t (start_point k a b)) ∙ ap (λ (y : Kind). length (labels n f y a b)) e

pub by_is : (n : ℕ) (f : List ℕ) (t a b : ℕ) {k κ : Kind} → k ≡ κ → required_by n f κ t a b ≡ required_by n f k t a b
by_is n f t a b e = ap (λ (y : Kind). required_by n f y t a b) (sym e)

pub start-lt : (k : Kind) (a b : ℕ) {m : ℕ} → a < m → b < m → start_point k a b < m
start-lt low a b h l = h
start-lt rise a b h l = l
start-lt fall a b h l = h
start-lt high a b h l = h

-- The required and the privileged cubes from transition t on, and from the next.
pub required_step : (n : ℕ) (f ts : List ℕ) (t : ℕ) → t < count ts → required_from n f ts t (count ts - t) ≡ required_of n f ts t ++ required_from n f ts (t + 1) (count ts - (t + 1))
required_step n f ts t l = rw (left (count ts) t l, add-one t)

pub required_done : (n : ℕ) (f ts : List ℕ) (t : ℕ) → count ts ≤ t → required_from n f ts t (count ts - t) ≡ []
required_done n f ts t h = rw (sub-eq-zero_of_le h)

pub privileged_done : (n : ℕ) (f ts : List ℕ) (t : ℕ) → count ts ≤ t → privileged_from n f ts t (count ts - t) ≡ []
privileged_done n f ts t h = rw (sub-eq-zero_of_le h)

pub privileged_step : (n : ℕ) (f ts : List ℕ) (t : ℕ) → t < count ts
    → privileged_from n f ts t (count ts - t) ≡ cond (dynamic (kind_at f ts t)) (privileged_by n (kind_at f ts t) t (start ts t) (end ts t) ∷ []) [] ++ privileged_from n f ts (t + 1) (count ts - (t + 1))
privileged_step n f ts t l = rw (left (count ts) t l, add-one t) (go (dynamic (kind_at f ts t)))
  where
    rest : List Privileged
    rest = privileged_from n f ts (suc t) (count ts - suc t)

    go : (b : Bool) → ◌≡◌ {A = List Privileged} (elim b [ true ↦ privileged_by n (kind_at f ts t) t (start ts t) (end ts t) ∷ rest | false ↦ rest ]) (cond b (privileged_by n (kind_at f ts t) t (start ts t) (end ts t) ∷ []) [] ++ rest)
    go true = refl
    go false = refl

module _ {A : Type 0} {n : ℕ} {read : ℕ → A} where
  -- The entry is there where the test holds.
  pub stored_yes : {before after : List ℕ} {k r : ℕ} {a : A} {b : Bool} → b ≡ true → Stored n read before after k r (a ∷ []) → Stored n read before after k r (cond b (a ∷ []) [])
  stored_yes e s = rw e s

  pub stored_no : (a : A) {b : Bool} → b ≡ false → (out : List ℕ) (k : ℕ) → Stored n read out out k k (cond b (a ∷ []) [])
  stored_no a e out k = rw e (stored_none out k)

  -- From the first place on.
  pub held : {before after : List ℕ} {r : ℕ} {l : List A} → Stored n read before after 0 r l → Held n read before after r l
  held s = record { is = s.is; size = omega (arith, s.size); long = s.long; clean = s.clean (λ i l. absurd (omega arith)) }

-- Where there is room, the words hold all of the list.
pub held_all : {A : Type 0} {n : ℕ} {read : ℕ → A} {before after : List ℕ} {r : ℕ} {l : List A} → Held n read before after r l → r ≤ length after → map read (take r after) ≡ l
held_all {after = after} {l = l} h room = h.is ∙ take_all (length after) l (omega (arith, room, h.size))

-- A loop over the steps of a walk that stores an entry for each point that passes.
pub record Walked {A : Type 0} (n : ℕ) (read entry : ℕ → A) (before after : List ℕ) (from k : ℕ) (walk : Walk) (test : ℕ → Bool) (s : Step) (whole : List ℕ) : Type 0 where
  pub at' : At walk s
  pub filling : Filling n read before after from k (map entry (ahead (λ x. visits walk x && test x) s.word)) (map entry whole)

pub walked_start : {A : Type 0} (n : ℕ) (read entry : ℕ → A) (out : List ℕ) (from : ℕ) {walk : Walk} {s : Step} → Steps walk 0 s → (test : ℕ → Bool) {like : ℕ → Bool} {size : ℕ} → Agrees (λ x. visits walk x && test x) like size → size ≤ 1024
    → Walked n read entry out out from from walk test s (those like 0 size)
walked_start n read entry out from t test a l = record { at' = t.at'; filling = rw (ahead_start t test a l) (filling_start n read out from _) }

module _ {A : Type 0} {n : ℕ} {read entry : ℕ → A} {before after : List ℕ} {from k : ℕ} {walk : Walk} {test : ℕ → Bool} {s : Step} {whole : List ℕ} (h : Walked n read entry before after from k walk test s whole) where
  module _ (l : s.word < 16) {r : ℕ} (p : WordOf (masked s.mask test) s.word r) where
    word : WordOf (λ x. visits walk x && test x) s.word r
    word = visit_word h.at' l test p

    pub walked_room : (most : ℕ) → from + length whole ≤ most → k + length (points_in s.word r) ≤ most
    walked_room most g =
        let e = ap length (ahead_word word l) ∙ length-append (points_in s.word r) (ahead (λ x. visits walk x && test x) (s.word + 1)) in
        omega (arith, filling_room h.filling most (omega (arith, g, length-map whole entry)), e, length-map (ahead (λ x. visits walk x && test x) s.word) entry)

    pub walked_below : {like : ℕ → Bool} {size : ℕ} → Agrees (λ x. visits walk x && test x) like size → Below size s.word r
    walked_below a = below_of a l word

    -- One word, and the words after it.
    pub walked_more : {t : Step} → Steps walk (s.word + 1) t → {after' : List ℕ} {k' : ℕ} → Stored n read after after' k k' (map entry (points_in s.word r)) → Walked n read entry before after' from k' walk test t whole
    walked_more {t} q g = record { at' = q.at'; filling = filling_more h.filling g (ap (map entry) (ahead_more s.word q test word l) ∙ map-append entry (points_in s.word r) (ahead (λ x. visits walk x && test x) t.word)) }

  pub walked_end : 16 ≤ s.word → Stored n read before after from k (map entry whole)
  walked_end l = filling_end h.filling (ap (map entry) (ahead_end (λ x. visits walk x && test x) s.word l))

-- A test adds at most one entry.
pub entry_few : {A : Type 0} (b : Bool) (a : A) → length (cond b (a ∷ []) []) ≤ 1
entry_few true a = omega arith
entry_few false a = omega arith
