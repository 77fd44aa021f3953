-- Problems that meet the hypotheses of the theorems.
use mathlib.Core.Path.{◌≡◌, refl, sym, subst⁻¹}
use mathlib.Core.Bool.{true, false, cond}
use mathlib.Core.List.Memᴰ
use mathlib.Core.List.{List, [], ◌∷◌, map}
use Rattle.std.specs.Prelude.{Option, None, Some}
use Prim.Native.Nat.{ℕ, zero, suc}
use native.Mathlib.Omega.{arith}
use lib.Dec.{T, leb}
use lib.ListN.{length}
use Rattle.hazard.specs.Search.{those, first_of}
use Rattle.hazard.specs.Cube.{has, span, distance}
use Rattle.hazard.specs.Transition.{off}
use Rattle.hazard.specs.Sets.{Required, required, privileged}
use Rattle.hazard.specs.Implicant.{lowest_zero, dhf_implicant, StrictlyInside}
use Rattle.hazard.specs.Growth.{Legal, Blocked, Grown, grow}
use Rattle.hazard.specs.Added.{AgreeOnAdded, lowest_added}
use Rattle.hazard.specs.Cover.{Network, WellFormed}
use Rattle.hazard.specs.Sequence.{ascending}
use Rattle.hazard.specs.HazardFree.{HazardFree}
use Rattle.hazard.specs.Refusal.{Accepted}
use Rattle.hazard.specs.Verdict.{products, passed, holds_zero, uncovered, verdict}
use Rattle.hazard.specs.Minimal.{FirstBlocking}
use Rattle.hazard.specs.Classical.{Implicant, PrimeImplicant, Realises, IrredundantCover, cover_checks}
use Rattle.hazard.specs.Pieces.{net5}
use Rattle.hazard.specs.Shown.{stays_high}
use Rattle.hazard.proofs.Search.{none-some}
use Rattle.hazard.proofs.Verdict.{checked_passed, verified}
use Rattle.hazard.proofs.Meaning.{inside_points}
use Rattle.hazard.proofs.Minimal.{exists_iff}
use Rattle.hazard.proofs.Promise.{promise_refused}
use Rattle.hazard.proofs.Classical.{dhf-implicant, minimal_irredundant, verified_classical}
use Rattle.hazard.proofs.Essential.{essential_minimal}

-- The table and transitions of K4, and of K7.
abbrev table4 : List ℕ
table4 = 0 ∷ 1 ∷ 0 ∷ 1 ∷ 0 ∷ 0 ∷ 1 ∷ 1 ∷ []

abbrev transitions4 : List ℕ
transitions4 = 3 ∷ 7 ∷ []

abbrev table7 : List ℕ
table7 = 0 ∷ 2 ∷ 1 ∷ 1 ∷ 1 ∷ 2 ∷ 1 ∷ 0 ∷ []

abbrev transitions7 : List ℕ
transitions7 = 2 ∷ 7 ∷ 6 ∷ 0 ∷ []

-- K6: a network that is hazard-free.
pub hazard_free-network : HazardFree 3 table4 transitions4 (products 3 (1 ∷ 2 ∷ 0 ∷ 2 ∷ 1 ∷ 1 ∷ 1 ∷ 1 ∷ 2 ∷ []))
hazard_free-network = (checked_passed 3 table4 transitions4 (1 ∷ 2 ∷ 0 ∷ 2 ∷ 1 ∷ 1 ∷ 1 ∷ 1 ∷ 2 ∷ []) 18 refl).0 refl

-- K5: one that is not.
pub hazardous_network : ¬ HazardFree 3 table4 transitions4 (products 3 net5)
hazardous_network h = let e : uncovered 0 7 ≡ passed = (checked_passed 3 table4 transitions4 net5 12 refl).1 h in let z : ◌≡◌ {A = ℕ} 0 1 = cc in omega arith

-- K4 with 112 alone: points 1 and 6, which no transition visits, are left, and the first is named with the number of transitions.
pub point-uncovered : verdict 3 table4 transitions4 (1 ∷ 1 ∷ 2 ∷ []) 6 ≡ uncovered 1 1
point-uncovered = refl

-- The same where point 0, the default of a list's end, is such a 1; where it is one and covered; and where it is a 0.
pub point_0_uncovered : verdict 2 (1 ∷ 0 ∷ 0 ∷ 1 ∷ []) (1 ∷ 1 ∷ []) [] 0 ≡ uncovered 1 0
point_0_uncovered = refl

-- No run is due for it: its number is past the last transition, though what is read there would go from 1 to 1.
pub point_0_at_rest : stays_high (1 ∷ 0 ∷ 0 ∷ 1 ∷ []) (1 ∷ 1 ∷ []) 1 ≡ false
point_0_at_rest = refl

pub point_3_uncovered : verdict 2 (1 ∷ 0 ∷ 0 ∷ 1 ∷ []) (1 ∷ 1 ∷ []) (0 ∷ 0 ∷ []) 4 ≡ uncovered 1 3
point_3_uncovered = refl

pub point_3_alone : verdict 2 (0 ∷ 0 ∷ 0 ∷ 1 ∷ []) (1 ∷ 1 ∷ []) [] 0 ≡ uncovered 1 3
point_3_alone = refl

-- K7: a table and transitions, free of function hazards, with no hazard-free network.
pub no_network : Accepted 3 table7 transitions7 × (¬ ((net : Network) × WellFormed 3 net × HazardFree 3 table7 transitions7 net))
no_network = (refl, λ h. none-some (sym ((exists_iff 3 table7 transitions7 refl).1 h)))

-- K7: its refusal, as the promise has it, is that of the first cube that blocks.
pub first-blocks : FirstBlocking 3 table7 transitions7 (record { number = 10; transition = 0; point = 3; steps = 1; lowest = 7; product = 0 })
first-blocks = (promise_refused 3 table7 transitions7 (0 ∷ 0 ∷ 0 ∷ 0 ∷ 0 ∷ 0 ∷ 0 ∷ 0 ∷ 0 ∷ 0 ∷ 0 ∷ 0 ∷ []) refl).blocks _ refl refl

-- With a transition before those of K7: its required cube grows legal, and the second blocks.
pub second_blocks : FirstBlocking 3 table7 (2 ∷ 2 ∷ transitions7) (record { number = 10; transition = 1; point = 3; steps = 1; lowest = 7; product = 0 })
second_blocks =
    record {
      earlier = record { transition = 0; label = 2; cube = 0 ∷ 1 ∷ 0 ∷ [] } ∷ [];
      cube = record { transition = 1; label = 3; cube = 2 ∷ 1 ∷ 0 ∷ [] };
      later =
          record { transition = 1; label = 6; cube = 0 ∷ 1 ∷ 2 ∷ [] }
          ∷ record { transition = 2; label = 2; cube = 0 ∷ 1 ∷ 2 ∷ [] }
          ∷ record { transition = 2; label = 4; cube = 0 ∷ 2 ∷ 1 ∷ [] }
          ∷ [];
      listed = refl;
      free = λ r m. subst⁻¹ (λ (q : Required). Grown (grow 3 (off table7) (privileged 3 table7 (2 ∷ 2 ∷ transitions7)) q.cube)) (Memᴰ.eq_of_singleton m) tt;
      blocks = refl;
      among = omega arith;
      taken = omega arith;
      few = omega arith;
    }

-- K4: a dhf-implicant with a product strictly inside it, which is in no minimal network.
pub strictly_inside : T (dhf_implicant 3 (off table4) (privileged 3 table4 transitions4) (1 ∷ 1 ∷ 2 ∷ [])) × StrictlyInside 3 (1 ∷ 1 ∷ 1 ∷ []) (1 ∷ 1 ∷ 2 ∷ [])
strictly_inside = (tt, record { within = (inside_points 3 (1 ∷ 1 ∷ 1 ∷ []) (1 ∷ 1 ∷ 2 ∷ []) tt tt).0 tt; more = (3, omega arith, tt, λ t. t) })

-- An absent literal comes after both others, though it is printed as a character that would come before; and no product stands twice.
pub absent_last : T (ascending ((0 ∷ 2 ∷ []) ∷ (1 ∷ 0 ∷ []) ∷ (1 ∷ 2 ∷ []) ∷ (2 ∷ 1 ∷ []) ∷ []))
absent_last = tt

pub none_twice : ¬ T (ascending ((0 ∷ 2 ∷ []) ∷ (0 ∷ 2 ∷ []) ∷ []))
none_twice t = t

-- Two privileged cubes are met illegally, and the first gives its start point first: two steps. The other order would take one.
abbrev table_a : List ℕ
table_a = 0 ∷ 1 ∷ 1 ∷ 1 ∷ 0 ∷ 1 ∷ 1 ∷ 1 ∷ []

pub legal_after_two : grow 3 (off table_a) (privileged 3 table_a (0 ∷ 7 ∷ 6 ∷ 6 ∷ 4 ∷ 3 ∷ [])) (0 ∷ 1 ∷ 1 ∷ []) ≡ Legal (2 ∷ 1 ∷ 2 ∷ []) 2
legal_after_two = refl

abbrev table_b : List ℕ
table_b = 2 ∷ 2 ∷ 2 ∷ 0 ∷ 0 ∷ 1 ∷ 1 ∷ 1 ∷ 0 ∷ 2 ∷ 2 ∷ 1 ∷ 0 ∷ 0 ∷ 1 ∷ 1 ∷ []

pub blocked_after_two : grow 4 (off table_b) (privileged 4 table_b (13 ∷ 14 ∷ 12 ∷ 7 ∷ 15 ∷ 11 ∷ [])) (1 ∷ 1 ∷ 2 ∷ 1 ∷ []) ≡ Blocked 3 2
blocked_after_two = refl

-- Raising the literal of input 0 adds the points 1 and 3. Two tables that differ at point 0 alone agree there, and both have 3 for the lowest added
-- zero; so has the whole cube of the first, whose old points have no zero, while the second's has 0.
abbrev table_d : List ℕ
table_d = 1 ∷ 1 ∷ 1 ∷ 0 ∷ []

abbrev table_e : List ℕ
table_e = 0 ∷ 1 ∷ 1 ∷ 0 ∷ []

pub old_points_apart : AgreeOnAdded 2 (off table_d) (off table_e) (0 ∷ 2 ∷ []) (2 ∷ 2 ∷ [])
old_points_apart zero l t = absurd t
old_points_apart (suc zero) l t = refl
old_points_apart (suc (suc zero)) l t = absurd t
old_points_apart (suc (suc (suc zero))) l t = refl
old_points_apart (suc (suc (suc (suc x)))) l t = absurd (omega arith)

abbrev zeros_of : List ℕ → Option ℕ × Option ℕ × Option ℕ
zeros_of f = (lowest_zero 2 (off f) (0 ∷ 2 ∷ []), lowest_added 2 (off f) (0 ∷ 2 ∷ []) (2 ∷ 2 ∷ []), lowest_zero 2 (off f) (2 ∷ 2 ∷ []))

pub added_zero : (zeros_of table_d ≡ (None, Some 3, Some 3)) × (zeros_of table_e ≡ (Some 0, Some 3, Some 0))
added_zero = (refl, refl)

-- A fall of five inputs with ten required cubes: the function is 1 where at most two inputs have moved.
abbrev layers5 : List ℕ
layers5 = map (λ x. cond (leb (distance 5 0 x) 2) 1 0) (those (λ x. true) 0 32)

pub ten_required : Accepted 5 layers5 (0 ∷ 31 ∷ []) × (length (required 5 layers5 (0 ∷ 31 ∷ [])) ≡ 10)
ten_required = (refl, refl)

-- Six inputs would have 64 points, and so more than 32.
pub six_inputs : (distance 6 0 63 ≡ 6) × (length (those (has (span 6 0 63)) 0 64) ≡ 64)
six_inputs = (refl, refl)

-- Without transitions K5's network passes, which K4's transition rules out: it realises the function.
pub no_transition : Realises 3 table4 (products 3 net5)
no_transition = ((verified_classical 3 table4 (verified 3 table4 [] net5 12 refl)).realises refl).0 refl

-- Exclusive or: 01 and 10 are an irredundant cover. With one of them a 1 is missed; a product that is no implicant comes first.
abbrev table_x : List ℕ
table_x = 0 ∷ 1 ∷ 1 ∷ 0 ∷ []

pub exclusive_or : IrredundantCover 2 table_x ((0 ∷ 1 ∷ []) ∷ (1 ∷ 0 ∷ []) ∷ [])
exclusive_or = ((minimal_irredundant 2 table_x _ refl).0 (essential_minimal 2 table_x [] refl _ tt)).0

pub one-missed : verdict 2 table_x [] (1 ∷ 0 ∷ []) 4 ≡ uncovered 0 2
one-missed = refl

pub no_implicant : verdict 2 table_x [] (1 ∷ 0 ∷ 2 ∷ 1 ∷ []) 8 ≡ holds_zero 1 3
no_implicant = refl

-- An implicant of which a literal can be dropped is not prime: a don't care may be contained.
pub not-prime : Implicant 2 (2 ∷ 1 ∷ 2 ∷ 2 ∷ []) (1 ∷ 0 ∷ []) × (¬ PrimeImplicant 2 (2 ∷ 1 ∷ 2 ∷ 2 ∷ []) (1 ∷ 0 ∷ []))
not-prime =
    let f : List ℕ = 2 ∷ 1 ∷ 2 ∷ 2 ∷ [] in
    ((dhf-implicant 2 f (1 ∷ 0 ∷ []) tt).0 tt, λ h. h.shortest 0 (λ e. omega (arith, e)) ((dhf-implicant 2 f (2 ∷ 0 ∷ []) tt).0 tt))

-- A table of don't cares and 0s has no required cube: a buffer of length 0 is long enough, and the network without products is the answer.
abbrev table_n : List ℕ
table_n = 0 ∷ 2 ∷ 2 ∷ 0 ∷ []

pub no_product : (first_of (cover_checks 2 table_n 0) ≡ None) × IrredundantCover 2 table_n []
no_product = (refl, ((minimal_irredundant 2 table_n [] refl).0 (essential_minimal 2 table_n [] refl [] tt)).0)
