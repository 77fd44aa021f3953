-- A loop that changes the entries of a list one after the other, each by its place.
use mathlib.Core.Path.{◌≡◌, refl, ◌∙◌}
use mathlib.Core.List.{List}
use Prim.Native.Nat.{ℕ, ◌+◌, ◌≤◌, ◌<◌}
use native.Mathlib.Omega.{arith}
use native.Mathlib.Decide.{ℕ_discrete, dec_lt}
use lib.ListN.{length, get_or, set, replicate, length-set, length-replicate, get_or-replicate, get_or-eq_default}
use lib.Seq.{get_or-set_same, get_or-set_other}

-- A list that was made of one value has it at every place, and past its end by default.
pub all_same : {A : Type 0} (size i : ℕ) (a : A) → get_or (replicate size a) i a ≡ a
all_same size i a = elim (dec_lt i size) [
  | yes l ↦ get_or-replicate size i a a l
  | no l ↦ get_or-eq_default (replicate size a) a (omega (arith, l, length-replicate size a))
]

-- The first i entries are changed, the others are as they were.
pub record Sweep {A : Type 0} (change : ℕ → A → A) (d : A) (old new : List A) (i : ℕ) : Type 0 where
  pub done : (k : ℕ) → k < i → get_or new k d ≡ change k (get_or old k d)
  pub rest : (k : ℕ) → i ≤ k → get_or new k d ≡ get_or old k d
  pub long : length new ≡ length old

pub sweep_start : {A : Type 0} (change : ℕ → A → A) (d : A) (old : List A) → Sweep change d old old 0
sweep_start change d old = record { done = λ k h. absurd (omega arith); rest = λ k h. refl; long = refl }

pub sweep_step : {A : Type 0} {change : ℕ → A → A} {d : A} {old new : List A} {i : ℕ} → Sweep change d old new i → i < length new
    → {v : A} → v ≡ change i (get_or new i d) → Sweep change d old (set new i v) (i + 1)
sweep_step {A} {change} {d} {old} {new} {i} s l {v} e =
    record {
      done = λ k h. elim (ℕ_discrete k i) [
        | yes c ↦ rw c (get_or-set_same new i v d l ∙ e ∙ rw (s.rest i (omega arith)))
        | no c ↦ get_or-set_other new i k v d c ∙ s.done k (omega arith)
      ];
      rest = λ k h. get_or-set_other new i k v d (λ c. omega arith) ∙ s.rest k (omega arith);
      long = length-set new i v ∙ s.long;
    }
