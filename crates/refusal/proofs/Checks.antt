-- What a check by a test says, and what checks say one after another.
use mathlib.Core.Path.{◌≡◌, refl, sym, ap, ◌∙◌}
use mathlib.Core.Bool.{Bool, true, false}
use mathlib.Core.List.{List, [], ◌∷◌, ◌++◌}
use Rattle.std.specs.Prelude.{Option, None, Some, Result, Ok, Err}
use Rattle.std.specs.Result.{IsErrAnd}
use Rattle.std.proofs.lemmas.Result.{err_from_is_err_and}
use Prim.Native.Nat.{ℕ}
use lib.Dec.{T}
use Rattle.hazard.specs.Search.{first_of}
use Rattle.hazard.specs.Refusal as spec
use Rattle.hazard.proofs.Search.{first_of-one, first_of-left, first_of-right}
use Rattle.refusal.specs.Answer.{refusal_of, refused_by}
use Rattle.refusal.specs.declared.refusal.Refusal.{Refusal}

-- A check by a test.
pub refuse_yes : (b : Bool) (number : ℕ) → T b → Some (spec.refusal number 0 0) ≡ spec.refuse_if b number
refuse_yes true number t = refl
refuse_yes false number t = absurd t

pub refuse_no : (b : Bool) (number : ℕ) → ¬ T b → None ≡ spec.refuse_if b number
refuse_no true number t = absurd (t tt)
refuse_no false number t = refl

-- A check refuses, or lets through.
module _ {A : Type 0} {x : Result A Refusal} {o : Option spec.Refusal} (e : refused_by x ≡ o) where
  pub passed : {a : A} → x ≡ Ok a → o ≡ None
  passed q = sym e ∙ ap refused_by q

  pub refused : {r : Refusal} → x ≡ Err r → Some (refusal_of r) ≡ o
  refused q = ap refused_by (sym q) ∙ e

-- A run of checks refuses, whatever comes after it; or lets through, and what comes after it decides.
module _ {A : Type 0} {x : Result A Refusal} (run : List (Option spec.Refusal)) (e : refused_by x ≡ first_of run) (later : List (Option spec.Refusal)) where
  pub run_refused : {r : Refusal} → x ≡ Err r → first_of (run ++ later) ≡ Some (refusal_of r)
  run_refused q = first_of-left run later (sym (refused e q))

  -- The refusal is handed on, whatever an answer that is none would hold.
  pub run_stays : {B : Type 0} {r : Refusal} → x ≡ Err r → (y : Result B Refusal) → IsErrAnd y (λ q. q ≡ r) → refused_by y ≡ first_of (run ++ later)
  run_stays q y h = let p = err_from_is_err_and y h in rw (p.1, p.2) (sym (run_refused q))

  pub run_passed : {a : A} → x ≡ Ok a → first_of (run ++ later) ≡ first_of later
  run_passed q = first_of-right run later (passed e q)

-- One check as a run.
pub alone : {a o : Option spec.Refusal} → a ≡ o → a ≡ first_of (o ∷ [])
alone {o = o} e = e ∙ sym (first_of-one o)
