-- Loops that store: the invariant of each, where it starts, what a turn does to it, and where it ends.
use mathlib.Core.Path.{◌≡◌, refl, sym, ap, ◌∙◌, subst}
use mathlib.Core.List.{List, [], ◌∷◌, ◌++◌, map, append_assoc, append-nil, map-append}
use Prim.Native.Nat.{ℕ, zero, suc, ◌+◌, ◌^◌, ◌≤◌, ◌<◌}
use native.Mathlib.Numerals.{add-one}
use native.Mathlib.Omega.{arith}
use native.Mathlib.Decide.{ℕ_discrete, dec_lt}
use lib.ListN.{length, take, set, length-append, length-take, length-set, length-map, get_or-eq_default}
use lib.Seq.{take_all, take_at, take-suc-set, get_or-set_same, get_or-set_other, set_out}
use Rattle.std.specs.List.{AllByRecursion}
use Rattle.cube.specs.Entry.{CleanWord}
use Rattle.cube.proofs.Word.{zero-clean}
use Rattle.entries.specs.Store.{Stored}

-- A room of L entries: what does not fit is left out, at once or in parts.
take_part : {A : Type 0} (m : ℕ) (xs ys : List A) → take m (take m xs ++ ys) ≡ take m (xs ++ ys)
take_part zero xs ys = refl
take_part (suc m) [] ys = refl
take_part (suc m) (x ∷ xs) ys = ap (λ (l : List _). x ∷ l) (take_part m xs ys)

module _ {A : Type 0} {n : ℕ} {read : ℕ → A} where
  pub stored_none : (out : List ℕ) (k : ℕ) → Stored n read out out k k []
  stored_none out k = record { is = sym (ap (take (length out)) (append-nil _) ∙ take_all (length out) (map read (take k out)) (omega (arith, length-map (take k out) read, length-take k out))); size = omega arith; long = refl; clean = λ h. h }

  stored_one : (out : List ℕ) (k w : ℕ) → k < length out → CleanWord n w → {a : A} → read w ≡ a → Stored n read out (set out k w) k (k + 1) (a ∷ [])
  stored_one out k w h u {a} e =
      record {
        is = rw (add-one k, take-suc-set out k w h, map-append, length-set) (ap (λ (b : A). map read (take k out) ++ (b ∷ [])) e ∙ sym (take_all (length out) (map read (take k out) ++ (a ∷ [])) (omega (arith, length-append (map read (take k out)) (a ∷ []), length-map (take k out) read, length-take k out))));
        size = refl;
        long = length-set out k w;
        clean = λ g i l. elim (ℕ_discrete i k) [ yes q ↦ rw (q, get_or-set_same out k w 0 h) u | no q ↦ rw (get_or-set_other out k i w 0 q) (g i (omega arith)) ];
      }

  -- Past the last word nothing is stored.
  stored_past : (out : List ℕ) (k : ℕ) → length out ≤ k → (a : A) → Stored n read out out k (k + 1) (a ∷ [])
  stored_past out k h a =
      record {
        is = rw (take_all (k + 1) out (omega arith), take_all k out h) (sym (take_at (map read out) (a ∷ []) (length out) (length-map out read)));
        size = refl;
        long = refl;
        clean = λ g i l. elim (dec_lt i k) [ yes q ↦ g i q | no q ↦ rw (get_or-eq_default out 0 {n = i} (omega (arith, q))) (zero-clean n) ];
      }

  -- A word at the next place, if there is room.
  pub stored_word : (out : List ℕ) (k w : ℕ) → CleanWord n w → {a : A} → read w ≡ a → Stored n read out (set out k w) k (k + 1) (a ∷ [])
  stored_word out k w u {a} e =
      elim (dec_lt k (length out)) [
        | yes h ↦ stored_one out k w h u e
        | no h ↦ let l : length out ≤ k = omega arith in rw (set_out out k w l) (stored_past out k l a)
      ]

  pub stored_as : {before after : List ℕ} {k r : ℕ} {l m : List A} → l ≡ m → Stored n read before after k r l → Stored n read before after k r m
  stored_as e s = rw (← e) s

  pub stored_then : {before middle after : List ℕ} {j k r : ℕ} {l m : List A} → Stored n read before middle j k l → Stored n read middle after k r m → Stored n read before after j r (l ++ m)
  stored_then {before} {middle} {j = j} {l = l} {m = m} s t =
      record {
        is = t.is ∙ rw (s.is, t.long) (take_part (length middle) (map read (take j before) ++ l) m ∙ ap (take (length middle)) (append_assoc (map read (take j before)) l m));
        size = omega (arith, s.size, t.size, length-append l m);
        long = t.long ∙ s.long;
        clean = λ g. t.clean (s.clean g);
      }

-- A loop that stores a list: from place `from` to place k its first part is stored, and the rest is to come.
pub record Filling {A : Type 0} (n : ℕ) (read : ℕ → A) (before after : List ℕ) (from k : ℕ) (rest whole : List A) : Type 0 where
  pub done : List A
  pub stored : Stored n read before after from k done
  pub all : whole ≡ done ++ rest

pub filling_start : {A : Type 0} (n : ℕ) (read : ℕ → A) (out : List ℕ) (from : ℕ) (whole : List A) → Filling n read out out from from whole whole
filling_start n read out from whole = record { done = []; stored = stored_none out from; all = refl }

module _ {A : Type 0} {n : ℕ} {read : ℕ → A} {before after : List ℕ} {from k : ℕ} {rest whole : List A} (s : Filling n read before after from k rest whole) where
  pub filling_more : {after' : List ℕ} {r : ℕ} {added rest' : List A} → Stored n read after after' k r added → rest ≡ added ++ rest' → Filling n read before after' from r rest' whole
  filling_more {added} {rest'} t e = record { done = s.done ++ added; stored = stored_then s.stored t; all = s.all ∙ rw e (sym (append_assoc s.done added rest')) }

  pub filling_room : (most : ℕ) → from + length whole ≤ most → k + length rest ≤ most
  filling_room most h = omega (arith, s.stored.size, simp length-append at (ap length s.all))

  pub filling_end : rest ≡ [] → Stored n read before after from k whole
  filling_end e = rw (s.all, e, append-nil) s.stored

-- A loop over points that stores an entry for each: those that are left are to come.
pub record Storing {A : Type 0} (n : ℕ) (read entry : ℕ → A) (before after : List ℕ) (from k : ℕ) (left whole : List ℕ) : Type 0 where
  pub below : AllByRecursion (λ x. x < 2 ^ n) left
  pub filling : Filling n read before after from k (map entry left) (map entry whole)

pub storing_start : {A : Type 0} {n : ℕ} (read entry : ℕ → A) (out : List ℕ) (from : ℕ) {points : List ℕ} → AllByRecursion (λ x. x < 2 ^ n) points → Storing n read entry out out from from points points
storing_start {n = n} read entry out from b = record { below = b; filling = filling_start n read out from _ }

module _ {A : Type 0} {n : ℕ} {read entry : ℕ → A} {before after : List ℕ} {from k : ℕ} {left whole : List ℕ} (s : Storing n read entry before after from k left whole) {x : ℕ} {rest : List ℕ} (e : left ≡ x ∷ rest) where
  all_below : AllByRecursion (λ y. y < 2 ^ n) (x ∷ rest)
  all_below = subst (AllByRecursion (λ y. y < 2 ^ n)) e s.below

  pub storing_below : x < 2 ^ n
  storing_below = all_below.0

  pub storing_room : (most : ℕ) → from + length whole ≤ most → k < most
  storing_room most h = omega (arith, filling_room s.filling most (omega (arith, h, length-map whole entry)), ap length (ap (map entry) e))

  pub storing_more : {after' : List ℕ} {r : ℕ} → Stored n read after after' k r (entry x ∷ []) → Storing n read entry before after' from r rest whole
  storing_more t = record { below = all_below.1; filling = filling_more s.filling t (ap (map entry) e) }
