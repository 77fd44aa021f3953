-- What the input rules say of an accepted table and of each of its transitions.
use mathlib.Core.Path.{◌≡◌, refl, sym}
use mathlib.Core.Logic.{◌≢◌}
use mathlib.Core.Bool.{Bool, true, false, not, ◌&&◌, ◌||◌}
use mathlib.Core.List.{List, Memᴰ}
use Rattle.std.specs.Prelude.{Option, None}
use Rattle.hazard.proofs.Options.{map-eq-none_iff}
use Prim.Native.Nat.{ℕ, zero, suc, ◌+◌, ◌*◌, ◌%◌, ◌^◌, ◌≤◌, ◌<◌}
use native.Mathlib.Omega.{arith}
use native.Mathlib.Decide.{ℕ_discrete, dec_lt}
use lib.Dec.{T, eqb, leb, ltb, le→leb, lt→ltb}
use lib.ListN.{length, get_or-eq_default}
use Rattle.hazard.specs.Limits.{most_moving}
use Rattle.hazard.specs.Search.{first, first_place}
use Rattle.hazard.specs.Cube.{has, span, distance}
use Rattle.hazard.specs.Transition.{value, start, end, count, Kind, low, rise, fall, high, kind_of, function_hazard, function_hazard_at, undefined_at}
use Rattle.hazard.specs.Sets.{kind_at}
use Rattle.hazard.specs.Refusal.{Refusal, refusal, refuse_if, inputs_check, length_check, bytes_check, list_check, ends_check, bursts_check, defined_check, input_checks, Accepted}
use Rattle.hazard.proofs.Test.{tests, T_and, no_or, eqb_of}
use Rattle.hazard.proofs.Search.{none-some, first-none, place_none, first_of-none, entries}
use Rattle.hazard.proofs.Cube.{→has, span_left, span_right}

-- A check that lets the input through.
pub lets : (b : Bool) (number : ℕ) → refuse_if b number ≡ None → ¬ T b
lets true number e t = none-some (sym e)
lets false number e t = t

-- What each check says of what it lets through.
pub inputs-few : (n : ℕ) → inputs_check n ≡ None → (1 ≤ n) × (n ≤ 10)
inputs-few n e =
    let t = no_or (eqb n 0) (ltb 10 n) (lets (eqb n 0 || ltb 10 n) 1 e) in
    let p : n ≢ 0 = λ e. t.0 (eqb_of e) in
    let q : ¬ (10 < n) = λ l. t.1 (lt→ltb 10 n l) in (omega arith, omega arith)

pub length_whole : (n : ℕ) (f : List ℕ) → length_check n f ≡ None → length f ≡ 2 ^ n
length_whole n f e = elim (ℕ_discrete (length f) (2 ^ n)) [ yes q ↦ q | no ne ↦ absurd (lets (not (eqb (length f) (2 ^ n))) 2 e (simp tests ne)) ]

pub list_few : (ts : List ℕ) → list_check ts ≡ None → (length ts % 2 ≡ 0) × (count ts ≤ 64)
list_few ts e =
    let t = no_or (eqb (length ts % 2) 1) (ltb 64 (count ts)) (lets (eqb (length ts % 2) 1 || ltb 64 (count ts)) 4 e) in
    let p : length ts % 2 ≢ 1 = λ e. t.0 (eqb_of e) in
    let q : ¬ (64 < count ts) = λ l. t.1 (lt→ltb 64 (count ts) l) in (omega arith, omega arith)

pub ends_within : (n : ℕ) (ts : List ℕ) → ends_check n ts ≡ None → (k : ℕ) → k < count ts → (start ts k < 2 ^ n) × (end ts k < 2 ^ n)
ends_within n ts e k l =
    let t = first-none (λ j. leb (2 ^ n) (start ts j) || leb (2 ^ n) (end ts j)) 0 (count ts)
    ((map-eq-none_iff (λ j. refusal 5 j 0) (first (λ j. leb (2 ^ n) (start ts j) || leb (2 ^ n) (end ts j)) 0 (count ts))).0 e)
    k (omega arith) (omega arith) in
    let u = no_or (leb (2 ^ n) (start ts k)) (leb (2 ^ n) (end ts k)) t in
    let p : ¬ (2 ^ n ≤ start ts k) = λ h. u.0 (le→leb (2 ^ n) (start ts k) h) in
    let q : ¬ (2 ^ n ≤ end ts k) = λ h. u.1 (le→leb (2 ^ n) (end ts k) h) in
    (omega arith, omega arith)

pub bursts_narrow : (n : ℕ) (ts : List ℕ) → bursts_check n ts ≡ None → (k : ℕ) → k < count ts → distance n (start ts k) (end ts k) ≤ most_moving
bursts_narrow n ts e k l =
    let t = first-none (λ j. ltb most_moving (distance n (start ts j) (end ts j))) 0 (count ts) ((map-eq-none_iff _ _).0 e) k (omega arith) (omega arith) in
    let p : ¬ (most_moving < distance n (start ts k) (end ts k)) = λ h. t (lt→ltb most_moving (distance n (start ts k) (end ts k)) h) in
    omega arith

-- The values at the two ends.
abbrev pub EndValues : Kind → ℕ → ℕ → Type 0
EndValues low u v = (u ≡ 0) × (v ≡ 0)
EndValues rise u v = (u ≡ 0) × (v ≡ 1)
EndValues fall u v = (u ≡ 1) × (v ≡ 0)
EndValues high u v = (u ≡ 1) × (v ≡ 1)

pub end-values : (u v : ℕ) → u < 2 → v < 2 → EndValues (kind_of (2 * u + v)) u v
end-values zero zero h l = (refl, refl)
end-values zero (suc zero) h l = (refl, refl)
end-values zero (suc (suc v)) h l = absurd (omega arith)
end-values (suc zero) zero h l = (refl, refl)
end-values (suc zero) (suc zero) h l = (refl, refl)
end-values (suc zero) (suc (suc v)) h l = absurd (omega arith)
end-values (suc (suc u)) v h l = absurd (omega arith)

-- 3: no byte is above 2.
pub bytes-few : (f : List ℕ) → bytes_check f ≡ None → (x : ℕ) → value f x ≤ 2
bytes-few f e x = elim (dec_lt x (length f)) [
  | no l ↦ let d = get_or-eq_default f 2 {n = x} (omega arith) in omega arith
  | yes l ↦ elim (dec_lt 2 (value f x)) [
    | no u ↦ omega arith
    | yes u ↦ absurd (first-none (λ y. ltb 2 (value f y)) 0 (length f) ((map-eq-none_iff (λ y. refusal 3 0 y) (first (λ y. ltb 2 (value f y)) 0 (length f))).0 e) x (omega arith) (omega arith) (lt→ltb 2 (value f x) u))
  ]
]

-- 6: no [A,B] has a don't care.
pub defined_all : (n : ℕ) (f ts : List ℕ) → defined_check n f ts ≡ None → (k : ℕ) → k < count ts → undefined_at n f (start ts k) (end ts k) ≡ None
defined_all n f ts e k l =
    (place_none (λ j. undefined_at n f (start ts j) (end ts j)) 0 (count ts)).0
    ((map-eq-none_iff (λ p. refusal 6 p.0 p.1) (first_place (λ j. undefined_at n f (start ts j) (end ts j)) 0 (count ts))).0 e)
    k (omega arith) (omega arith)

pub defined_value : (n : ℕ) (f : List ℕ) (a b : ℕ) → undefined_at n f a b ≡ None → (x : ℕ) → x < 2 ^ n → T (has (span n a b) x) → value f x ≢ 2
defined_value n f a b e x l t v = first-none (λ y. has (span n a b) y && eqb (value f y) 2) 0 (2 ^ n) e x (omega arith) (omega arith) (simp tests (t, v))

-- The rules of a transition from a to b, of kind k.
pub record RulesAt (n : ℕ) (f : List ℕ) (a b : ℕ) (k : Kind) : Type 0 where
  pub start-lt : a < 2 ^ n
  pub end_lt : b < 2 ^ n
  pub ends : EndValues k (value f a) (value f b)
  pub defined : (x : ℕ) → x < 2 ^ n → T (has (span n a b) x) → value f x < 2
  pub kept : (x : ℕ) → x < 2 ^ n → T (has (span n a b) x) → ¬ T (function_hazard n f k a b x)

module _ (n : ℕ) (f ts : List ℕ) (accepted : Accepted n f ts) where
  -- Each of the input rules, by its name, lets it through.
  passes : {o : Option Refusal} → Memᴰ o (input_checks n f ts) → o ≡ None
  passes = first_of-none (input_checks n f ts) accepted

  pub few-inputs : (1 ≤ n) × (n ≤ 10)
  few-inputs = inputs-few n (passes (search entries depth 20))

  pub table-length : length f ≡ 2 ^ n
  table-length = length_whole n f (passes (search entries depth 20))

  pub bytes : (x : ℕ) → value f x ≤ 2
  bytes = bytes-few f (passes (search entries depth 20))

  pub list_length : (length ts % 2 ≡ 0) × (count ts ≤ 64)
  list_length = list_few ts (passes (search entries depth 20))

  pub points : (k : ℕ) → k < count ts → (start ts k < 2 ^ n) × (end ts k < 2 ^ n)
  points = ends_within n ts (passes (search entries depth 20))

  pub narrow : (k : ℕ) → k < count ts → distance n (start ts k) (end ts k) ≤ most_moving
  narrow = bursts_narrow n ts (passes (search entries depth 20))

  all_defined : (k : ℕ) → k < count ts → undefined_at n f (start ts k) (end ts k) ≡ None
  all_defined = defined_all n f ts (passes (search entries depth 20))

  all_kept : (k : ℕ) → k < count ts → function_hazard_at n f (start ts k) (end ts k) ≡ None
  all_kept k l =
      (place_none (λ j. function_hazard_at n f (start ts j) (end ts j)) 0 (count ts)).0
      ((map-eq-none_iff (λ p. refusal 7 p.0 p.1) (first_place (λ j. function_hazard_at n f (start ts j) (end ts j)) 0 (count ts))).0
      (passes (search entries depth 20)))
      k (omega arith) (omega arith)

  pub rules_at : (k : ℕ) → k < count ts → RulesAt n f (start ts k) (end ts k) (kind_at f ts k)
  rules_at k l =
      record {
        start-lt = (points k l).0;
        end_lt = (points k l).1;
        ends = end-values (value f A) (value f B) (two A (points k l).0 (→has (span_left n A B))) (two B (points k l).1 (→has (span_right n A B)));
        defined = two;
        kept = λ x m t u. first-none (λ y. has (span n A B) y && function_hazard n f (kind_at f ts k) A B y) 0 (2 ^ n) (all_kept k l) x (omega arith) (omega arith) (simp T_and (t, u));
      }
    where
      A : ℕ
      A = start ts k

      B : ℕ
      B = end ts k

      two : (x : ℕ) → x < 2 ^ n → T (has (span n A B) x) → value f x < 2
      two x m t = let u = bytes x in let ne = defined_value n f A B (all_defined k l) x m t in omega (arith, u, ne)
