-- The classical theory of two-level logic, which knows no transitions: what a problem with an empty list asks.
use Rattle.std.specs.Prelude.{◌≡◌, ◌↔◌, ◌≢◌, Bool, true, false, not, ◌&&◌, ℕ, ◌*◌, ◌<◌, ◌^◌, T, eqb, ltb, length, get_or, set, drop, Option, None, Some}
use mathlib.Core.List.{List, [], ◌∷◌, ◌++◌, Memᴰ}
use Rattle.hazard.specs.Search.{first, those, first_of}
use Rattle.hazard.specs.Cube.{Cube, is_product, has}
use Rattle.hazard.specs.Transition.{value, off}
use Rattle.hazard.specs.Cover.{Network, gives, without}
use Rattle.hazard.specs.Sequence.{ascending}
use Rattle.hazard.specs.Refusal.{Refusal, refuse_if, inputs_check, table_checks}
use Rattle.hazard.specs.Verdict.{own_checks, products, Verdict, refused, passed, holds_zero, uncovered, fault_a}
use Rattle.hazard.specs.Minimal.{bytes_of, Minimised, written, declined}

-- An implicant: a product that contains no 0 of the function.
pub record Implicant (n : ℕ) (f : List ℕ) (p : Cube) : Type 0 where
  pub product : T (is_product n p)
  pub clean : (x : ℕ) → x < 2 ^ n → T (has p x) → value f x ≢ 0

-- A prime implicant: an implicant of which no literal can be dropped.
pub record PrimeImplicant (n : ℕ) (f : List ℕ) (p : Cube) : Type 0 where
  pub implicant : Implicant n f p
  pub shortest : (i : ℕ) → get_or p i 2 ≢ 2 → ¬ Implicant n f (set p i 2)

-- The network realises the function: 0 at each 0, 1 at each 1.
pub record Realises (n : ℕ) (f : List ℕ) (net : Network) : Type 0 where
  pub zeros : (x : ℕ) → x < 2 ^ n → value f x ≡ 0 → gives net x ≡ false
  pub ones : (x : ℕ) → x < 2 ^ n → value f x ≡ 1 → gives net x ≡ true

-- An irredundant cover by prime implicants: without any one of them some 1 is lost.
pub record IrredundantCover (n : ℕ) (f : List ℕ) (net : Network) : Type 0 where
  pub primes : (p : Cube) → Memᴰ p net → PrimeImplicant n f p
  pub realises : Realises n f net
  pub irredundant : (j : ℕ) → j < length net → (x : ℕ) × (x < 2 ^ n) × (value f x ≡ 1) × (gives (without j net) x ≡ false)

-- The point is in the ON-set.
abbrev pub on : List ℕ → ℕ → Bool
on f x = eqb (value f x) 1

module _ (n : ℕ) (f : List ℕ) where
  -- All that is checked of a function: the number of inputs and the table.
  abbrev pub function_checks : List (Option Refusal)
  function_checks = inputs_check n ∷ table_checks n f

  -- With 9 for a buffer of room bytes: it is shorter than n bytes for each 1.
  abbrev pub cover_checks : ℕ → List (Option Refusal)
  cover_checks room = function_checks ++ (refuse_if (ltb room (n * length (those (on f) 0 (2 ^ n)))) 9 ∷ [])

  -- The lowest 1 at which the network gives 0.
  abbrev pub missed : Network → Option ℕ
  missed net = first (λ x. on f x && not (gives net x)) 0 (2 ^ n)

  -- The first product that is no implicant, with its lowest 0; else the 1 that is missed, with transition 0; else passed.
  abbrev pub classical_fault : Network → Verdict
  classical_fault net = elim (fault_a n (off f) net) [ Some p ↦ holds_zero p.0 p.1 | None ↦ elim (missed net) [ Some x ↦ uncovered 0 x | None ↦ passed ] ]

  -- The verdict on a network's bytes, for a wire buffer of room numbers.
  abbrev pub classical_verdict : List ℕ → ℕ → Verdict
  classical_verdict bytes room = elim (first_of (function_checks ++ own_checks n bytes room)) [ Some q ↦ refused q | None ↦ classical_fault (products n bytes) ]

-- What the minimiser promises where the list is empty: an irredundant cover by prime implicants, in sequence. There always is one.
pub record ClassicalPromise (n : ℕ) (f before after : List ℕ) (r : Minimised) : Type 0 where
  pub refused : (q : Refusal) → first_of (cover_checks n f (length before)) ≡ Some q → (r ≡ declined q) × (after ≡ before)
  pub network : first_of (cover_checks n f (length before)) ≡ None
      → (net : Network) × (r ≡ written (length net)) × IrredundantCover n f net × T (ascending net) × (after ≡ bytes_of net ++ drop (n * length net) before)

-- What the verifier promises where the list is empty: passed exactly if the network realises the function.
pub record ClassicalVerified (n : ℕ) (f bytes : List ℕ) (room : ℕ) (v : Verdict) : Type 0 where
  pub is : v ≡ classical_verdict n f bytes room
  pub realises : first_of (function_checks n f ++ own_checks n bytes room) ≡ None → (v ≡ passed) ↔ Realises n f (products n bytes)
