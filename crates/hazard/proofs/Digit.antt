-- The laws of digits. `Fits d e`: the value or digit d fits the digit e.
use mathlib.Core.Path.{◌≡◌, refl, sym, ◌∙◌}
use mathlib.Core.Logic.{inl, inr}
use mathlib.Core.Bool.{Bool, true, false, cond, ◌||◌}
use Prim.Native.Nat.{ℕ, ◌≤◌, ◌<◌}
use native.Mathlib.Omega.{arith}
use native.Mathlib.Decide.{ℕ_discrete}
use lib.Dec.{T, eqb, eqb→eq}
use Rattle.hazard.specs.Cube.{fits, over}
use Rattle.hazard.proofs.Test.{or_l, or_r, or_e, eqb_of, eqb_self}

pub data Fits (d e : ℕ) : Type 0 where
  top : e ≡ 2 → Fits d e
  same : d ≡ e → Fits d e

pub fits→ : (d e : ℕ) → T (fits d e) → Fits d e
fits→ d e h = elim (or_e (eqb e 2) (eqb d e) h) [ inl p ↦ top (eqb→eq e 2 p) | inr p ↦ same (eqb→eq d e p) ]

pub →fits : {d e : ℕ} → Fits d e → T (fits d e)
→fits {d} {e} (top p) = or_l (eqb e 2) (eqb d e) (eqb_of p)
→fits {d} {e} (same p) = or_r (eqb e 2) (eqb d e) (eqb_of p)

pub fits_trans : {d e f : ℕ} → Fits d e → Fits e f → Fits d f
fits_trans u (top p) = top p
fits_trans (top q) (same p) = top (sym p ∙ q)
fits_trans (same q) (same p) = same (q ∙ p)

pub fits_antisym : {d e : ℕ} → Fits d e → Fits e d → d ≡ e
fits_antisym (same p) v = p
fits_antisym (top p) (same q) = sym q
fits_antisym (top p) (top q) = q ∙ sym p

-- What fits an absent literal is free there.
pub fits_two : {d e : ℕ} → Fits d e → d ≡ 2 → e ≡ 2
fits_two (top p) h = p
fits_two (same p) h = sym p ∙ h

-- The least digit that two fit.
pub over_cases : (P : ℕ → Type 0) (d b : ℕ) → (d ≡ b → P d) → P 2 → P (over d b)
over_cases P d b h k = go (eqb d b) (eqb→eq d b)
  where
    go : (t : Bool) → (T t → d ≡ b) → P (cond t d 2)
    go true e = h (e tt)
    go false e = k

pub over-left : (d b : ℕ) → Fits d (over d b)
over-left d b = over_cases (λ e. Fits d e) d b (λ e. same refl) (top refl)

pub over-right : (d b : ℕ) → Fits b (over d b)
over-right d b = over_cases (λ e. Fits b e) d b (λ e. same (sym e)) (top refl)

pub over_self : (d : ℕ) → over d d ≡ d
over_self d = rw (eqb_self d)

pub over_least : {d b e : ℕ} → Fits d e → Fits b e → Fits (over d b) e
over_least u (top p) = top p
over_least (top q) (same p) = top q
over_least {d} {b} {e} (same q) (same p) = same (rw (q, p) (over_self e))

pub over-digit : (d b : ℕ) → d ≤ 2 → over d b ≤ 2
over-digit d b h = over_cases (λ e. e ≤ 2) d b (λ _. h) (omega arith)

-- Every digit is fitted by a value.
pub literal : (d : ℕ) → d ≤ 2 → (b : ℕ) × (b < 2) × Fits b d
literal d h = go (ℕ_discrete d 2)
  where
    go : Dec (d ≡ 2) → (b : ℕ) × (b < 2) × Fits b d
    go (yes p) = (0, omega arith, top p)
    go (no p) = (d, omega arith, same refl)

-- A digit that has the values of another is fitted by it.
pub digit_points : (d e : ℕ) → d ≤ 2 → ((b : ℕ) → b < 2 → Fits b d → Fits b e) → Fits d e
digit_points d e h f = go (ℕ_discrete d 2)
  where
    two : Fits 0 e → Fits 1 e → e ≡ 2
    two (top p) v = p
    two (same p) (top q) = q
    two (same p) (same q) = omega arith

    go : Dec (d ≡ 2) → Fits d e
    go (yes p) = top (two (f 0 (omega arith) (top p)) (f 1 (omega arith) (top p)))
    go (no p) = f d (omega arith) (same refl)

-- Two digits meet where a value fits both.
pub digit_meet : (d e : ℕ) → d ≤ 2 → e ≤ 2 → T (eqb d 2 || fits d e) → (b : ℕ) × (b < 2) × Fits b d × Fits b e
digit_meet d e h k t = elim (or_e (eqb d 2) (fits d e) t) [
  | inl p ↦ let (b, l, v) = literal e k in (b, l, top (eqb→eq d 2 p), v)
  | inr q ↦ let (b, l, v) = literal d h in (b, l, v, fits_trans v (fits→ d e q))
]

pub meet_digit : {b d e : ℕ} → Fits b d → Fits b e → T (eqb d 2 || fits d e)
meet_digit {b} {d} {e} (top p) v = or_l (eqb d 2) (fits d e) (eqb_of p)
meet_digit {b} {d} {e} (same p) v = or_r (eqb d 2) (fits d e) (→fits (rw p at v))

-- How many inputs a digit fixes.
abbrev pub fix : ℕ → ℕ
fix d = cond (eqb d 2) 0 1

pub fix_le : (d : ℕ) → fix d ≤ 1
fix_le d = go (eqb d 2)
  where
    go : (t : Bool) → cond t 0 1 ≤ 1
    go true = omega arith
    go false = omega arith

pub fix_zero : (d : ℕ) → fix d ≤ 0 → d ≡ 2
fix_zero d = go (eqb d 2) (eqb→eq d 2)
  where
    go : (t : Bool) → (T t → d ≡ 2) → cond t 0 1 ≤ 0 → d ≡ 2
    go true e h = e tt
    go false e h = absurd (omega arith)

pub fits_fix : {d e : ℕ} → Fits d e → fix e ≤ fix d
fits_fix {d} {e} (top p) = rw p (omega arith)
fits_fix {d} {e} (same p) = rw p (omega arith)

pub fits_tight : {d e : ℕ} → Fits d e → fix d ≤ fix e → Fits e d
fits_tight {d} {e} (top p) h = top (fix_zero d (rw p at h))
fits_tight (same p) h = same (sym p)
