-- What is left of a loop over a list of words, from the first on.
use mathlib.Core.Path.{◌≡◌, refl, sym, ap, ◌∙◌}
use mathlib.Core.Bool.{Bool, true, false}
use mathlib.Core.List.{List, [], ◌∷◌, map}
use Rattle.std.specs.Prelude.{Option, None, Some}
use Prim.Native.Nat.{ℕ, suc, ◌+◌, ◌≤◌, ◌<◌}
use native.Mathlib.Numerals.{add-one}
use lib.ListN.{length, get_or, drop, drop_of_length-le}
use lib.Seq.{drop-cons}
use Rattle.hazard.specs.Search.{find, first_of}

-- The whole answer is the answer on the words from k on.
pub record Left {A : Type 0} (look : List ℕ → A) (l : List ℕ) (k : ℕ) : Type 0 where
  pub rest : look l ≡ look (drop k l)

pub left-start : {A : Type 0} {look : List ℕ → A} {l : List ℕ} → Left look l 0
left-start = record { rest = refl }

module _ {A : Type 0} {look : List ℕ → A} {l : List ℕ} {k : ℕ} (s : Left look l k) where
  pub left_end : length l ≤ k → look [] ≡ look l
  left_end h = sym (s.rest ∙ ap look (drop_of_length-le l h))

  left_here : k < length l → look (get_or l k 0 ∷ drop (suc k) l) ≡ look l
  left_here h = sym (s.rest ∙ ap look (drop-cons l k 0 h))

  left-on : k < length l → look (get_or l k 0 ∷ drop (suc k) l) ≡ look (drop (suc k) l) → Left look l (k + 1)
  left-on h e = record { rest = rw add-one (sym (left_here h) ∙ e) }

-- The first word that passes a test.
module _ {A : Type 0} (test : A → Bool) (f : ℕ → A) {l : List ℕ} {k : ℕ} (s : Left (λ w. find test (map f w)) l k) (h : k < length l) where
  pub find_hit : test (f (get_or l k 0)) ≡ true → Some (f (get_or l k 0)) ≡ find test (map f l)
  find_hit e = at (f (get_or l k 0)) (map f (drop (suc k) l)) e ∙ left_here s h
    where
      at : (a : A) (m : List A) → test a ≡ true → Some a ≡ find test (a ∷ m)
      at a m e = rw (e, find)

  pub find_miss : test (f (get_or l k 0)) ≡ false → Left (λ w. find test (map f w)) l (k + 1)
  find_miss e = left-on s h (at (f (get_or l k 0)) (map f (drop (suc k) l)) e)
    where
      at : (a : A) (m : List A) → test a ≡ false → find test (a ∷ m) ≡ find test m
      at a m e = rw (e, find)

-- The first word at which a check finds something.
module _ {A B : Type 0} (check : A → Option B) (f : ℕ → A) {l : List ℕ} {k : ℕ} (s : Left (λ w. first_of (map check (map f w))) l k) (h : k < length l) where
  pub check_hit : {b : B} → check (f (get_or l k 0)) ≡ Some b → check (f (get_or l k 0)) ≡ first_of (map check (map f l))
  check_hit {b} e = at (check (f (get_or l k 0))) (map check (map f (drop (suc k) l))) e ∙ left_here s h
    where
      at : (o : Option B) (m : List (Option B)) → o ≡ Some b → o ≡ first_of (o ∷ m)
      at o m e = rw (e, first_of)

  pub check_miss : check (f (get_or l k 0)) ≡ None → Left (λ w. first_of (map check (map f w))) l (k + 1)
  check_miss e = left-on s h (at (check (f (get_or l k 0))) (map check (map f (drop (suc k) l))) e)
    where
      at : (o : Option B) (m : List (Option B)) → o ≡ None → first_of (o ∷ m) ≡ first_of m
      at o m e = rw (e, first_of)
