-- What the checks of the form leave.
use mathlib.Core.Path.{◌≡◌}
use mathlib.Core.List.{List, Memᴰ}
use Rattle.std.specs.Prelude.{Option, None}
use Prim.Native.Nat.{ℕ, ◌+◌, ◌*◌, ◌/◌, ◌%◌, ◌^◌, ◌<◌}
use native.Mathlib.Omega.{arith}
use native.Mathlib.Decide.{ℕ_discrete, dec_lt}
use lib.ListN.{length, get_or, get_or-eq_default}
use lib.Pow.{pow_pos}
use Rattle.hazard.specs.Search.{first_of}
use Rattle.hazard.specs.Refusal.{Refusal, list_check, ends_check, bursts_check}
use Rattle.hazard.proofs.Search.{first_of-none, entries}
use Rattle.hazard.proofs.Rules.{length_whole, bytes-few, list_few, ends_within, bursts_narrow}
use Rattle.kinds.specs.Listed.{Listed}
use Rattle.form.specs.Formed.{form_checks, Formed}

module _ (n : ℕ) (ts : List ℕ) where
  -- An even list of ends that are points.
  within : length ts % 2 ≡ 0 → ends_check n ts ≡ None → (i : ℕ) → get_or ts i 0 < 2 ^ n
  within even ends i =
      elim (dec_lt i (length ts)) [
        | no l ↦ let d = get_or-eq_default ts 0 {n = i} (omega arith) in omega (arith, pow_pos n)
        | yes l ↦ elim (ℕ_discrete (i % 2) 0) [
          | yes q ↦ let d : 2 * (i / 2) ≡ i = omega arith in rw d at (ends_within n ts ends (i / 2) (omega arith)).0
          | no q ↦ let d : 2 * (i / 2) + 1 ≡ i = omega arith in rw d at (ends_within n ts ends (i / 2) (omega arith)).1
        ]
      ]

  pub listed_of : list_check ts ≡ None → ends_check n ts ≡ None → bursts_check n ts ≡ None → Listed n ts
  listed_of list ends bursts = record { few = (list_few ts list).1; within = within (list_few ts list).0 ends; narrow = bursts_narrow n ts bursts }

pub formed : (n : ℕ) (f ts : List ℕ) → first_of (form_checks n f ts) ≡ None → Formed n f
formed n f ts e = record { whole = length_whole n f (passes (search entries depth 20)); bytes = λ x l. bytes-few f (passes (search entries depth 20)) x }
  where
    passes : {o : Option Refusal} → Memᴰ o (form_checks n f ts) → o ≡ None
    passes = first_of-none (form_checks n f ts) e
