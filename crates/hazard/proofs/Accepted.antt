-- The checks by examples: where 4, 14 and 15 begin to apply, and which of several that apply is the answer.
use mathlib.Core.Path.{◌≡◌, refl}
use mathlib.Core.List.{List, [], ◌∷◌}
use Rattle.std.specs.Prelude.{None, Some}
use Prim.Native.Nat.{ℕ}
use lib.ListN.{set, replicate}
use Rattle.hazard.specs.Search.{first_of}
use Rattle.hazard.specs.Refusal.{refusal, product_refusal, list_check, input_checks, Accepted}
use Rattle.hazard.specs.Verdict.{refused, passed, verdict}

-- An empty list is taken. One of odd length is refused; 64 transitions are taken, and 65 refused.
abbrev ones1 : List ℕ
ones1 = 1 ∷ 1 ∷ []

pub empty_taken : Accepted 1 ones1 []
empty_taken = refl

pub odd_refused : first_of (input_checks 1 ones1 (0 ∷ [])) ≡ Some (refusal 4 0 0)
odd_refused = refl

pub most_taken : list_check (replicate 128 0) ≡ None
most_taken = refl

pub more-refused : list_check (replicate 130 0) ≡ Some (refusal 4 0 0)
more-refused = refl

-- A transition of five inputs is taken, on a table of 1s. One of six is refused, and of several the first is named.
abbrev ones6 : List ℕ
ones6 = replicate 64 1

pub five_taken : Accepted 6 ones6 (0 ∷ 31 ∷ [])
five_taken = refl

pub six_refused : first_of (input_checks 6 ones6 (0 ∷ 31 ∷ 0 ∷ 63 ∷ 1 ∷ 62 ∷ [])) ≡ Some (refusal 14 1 0)
six_refused = refl

-- An end that is no point comes first, even after such a transition, or in it;
pub outside-first : first_of (input_checks 6 ones6 (0 ∷ 63 ∷ 0 ∷ 64 ∷ [])) ≡ Some (refusal 5 1 0)
outside-first = refl

pub outside_six : first_of (input_checks 6 ones6 (63 ∷ 64 ∷ [])) ≡ Some (refusal 5 0 0)
outside_six = refl

-- a don't care comes later, and so does a function hazard, even before it.
pub six_then_undefined : first_of (input_checks 6 (set ones6 1 2) (0 ∷ 1 ∷ 0 ∷ 63 ∷ [])) ≡ Some (refusal 14 1 0)
six_then_undefined = refl

pub six_then_hazard : first_of (input_checks 6 (set ones6 1 0) (0 ∷ 3 ∷ 0 ∷ 63 ∷ [])) ≡ Some (refusal 14 1 0)
six_then_hazard = refl

-- The wire buffer has two numbers for each input of each product: exactly so many are enough, one less is refused. No products need none.
pub wires_exact : verdict 1 ones1 (0 ∷ 1 ∷ []) (2 ∷ []) 2 ≡ passed
wires_exact = refl

pub wires-short : verdict 1 ones1 (0 ∷ 1 ∷ []) (2 ∷ []) 1 ≡ refused (refusal 15 0 0)
wires-short = refl

pub wires_none : verdict 1 (0 ∷ 0 ∷ []) (0 ∷ 1 ∷ []) [] 0 ≡ passed
wires_none = refl

-- That comes after the network's own checks: the length, and a byte above 2.
pub length_then_wires : verdict 2 (1 ∷ 1 ∷ 1 ∷ 1 ∷ []) [] (2 ∷ 2 ∷ 2 ∷ []) 0 ≡ refused (refusal 11 0 0)
length_then_wires = refl

pub byte_then_wires : verdict 2 (1 ∷ 1 ∷ 1 ∷ 1 ∷ []) [] (2 ∷ 3 ∷ []) 0 ≡ refused (product_refusal 12 0)
byte_then_wires = refl
