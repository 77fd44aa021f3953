-- `position` in a list finds what a search of its places finds.
use mathlib.Core.Path.{◌≡◌, refl, sym, ap, ◌∙◌}
use mathlib.Core.Bool.{Bool, true, false, cond}
use mathlib.Core.List.{List, [], ◌∷◌}
use Rattle.std.specs.Prelude.{Option, Some}
use Rattle.std.specs.List.{position_from}
use Prim.Native.Nat.{ℕ, suc, ◌+◌, ◌<◌}
use native.Mathlib.Nat.{add-zero}
use native.Mathlib.Numerals.{add-one}
use native.Mathlib.Omega.{arith}
use lib.ListN.{length, get_or}
use Rattle.hazard.specs.Search.{first}

pub position-first : {A : Type 0} (test : A → Bool) (look : ℕ → Bool) (d : A) (l : List A) (from : ℕ) → ((k : ℕ) → k < length l → look (from + k) ≡ test (get_or l k d)) → position_from test from l ≡ first look from (length l)
position-first test look d [] from e = refl
position-first test look d (a ∷ l) from e =
    rw (sym (rw (add-zero) at (e 0 (omega arith))), add-one) (go (look from) (position-first test look d l (suc from) (λ k h. let p : suc from + k ≡ from + suc k = omega arith in ap look p ∙ e (suc k) (omega arith))))
  where
    go : (b : Bool) {o q : Option ℕ} → o ≡ q → cond b (Some from) o ≡ elim b [ true ↦ Some from | false ↦ q ]
    go true e = refl
    go false e = e
