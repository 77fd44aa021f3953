-- Only the transitions of the list are read: what `start` and `end` answer past them changes no set.
use mathlib.Core.Path.{◌≡◌, refl, ap, ap₂, ◌∙◌, fun_ext}
use mathlib.Core.Bool.{true, false, not, ◌&&◌}
use mathlib.Core.List.{List, [], ◌∷◌, ◌++◌, map}
use Prim.Native.Nat.{ℕ, zero, suc, ◌+◌, ◌*◌, ◌%◌, ◌≤◌, ◌<◌}
use native.Mathlib.Omega.{arith}
use lib.Dec.{eqb}
use lib.ListN.{length, length-append, get_or-append}
use Rattle.hazard.specs.Search.{found, first, first_of}
use Rattle.hazard.specs.Cube.{has, span}
use Rattle.hazard.specs.Transition.{value, off, start, end, count, visits, visited, kind}
use Rattle.hazard.specs.Sets.{Required, Privileged, labels, start_point, dynamic, single_points, required_of, required_from, of_points, required, privileged_from, privileged}
use Rattle.hazard.specs.Cover.{Network}
use Rattle.hazard.specs.Verdict.{fault_a, fault_c, fault_b, first_fault, fault}
use Rattle.hazard.specs.Minimal.{block_check, blocking}
use Rattle.hazard.proofs.Search.{first-same}

-- Two lists with the same transitions.
pub record SameTransitions (ts us : List ℕ) : Type 0 where
  pub many : count ts ≡ count us
  pub starts : (k : ℕ) → k < count ts → start ts k ≡ start us k
  pub ends : (k : ℕ) → k < count ts → end ts k ≡ end us k

-- One number more makes no transition, though `start` answers with it at the number of transitions.
pub one_more : (ts : List ℕ) (x : ℕ) → length ts % 2 ≡ 0 → SameTransitions (ts ++ (x ∷ [])) ts
one_more ts x e =
    let l = length-append ts (x ∷ []) in
    record {
      many = omega arith;
      starts = λ k h. get_or-append ts (x ∷ []) 0 (2 * k) (omega arith);
      ends = λ k h. get_or-append ts (x ∷ []) 0 (2 * k + 1) (omega arith);
    }

module _ (n : ℕ) (f ts us : List ℕ) (same : SameTransitions ts us) where
  -- What is made of the two ends of transition k.
  of_ends : {A : Type 0} (g : ℕ → ℕ → A) (k : ℕ) → k < count ts → g (start ts k) (end ts k) ≡ g (start us k) (end us k)
  of_ends g k l = ap₂ g (same.starts k l) (same.ends k l)

  required_of_lem : (k : ℕ) → k < count ts → required_of n f ts k ≡ required_of n f us k
  required_of_lem k = of_ends (λ a b. map (λ x. record { transition = k; label = x; cube = span n (start_point (kind f a b) a b) x }) (labels n f (kind f a b) a b)) k

  required-from : (from m : ℕ) → from + m ≤ count ts → required_from n f ts from m ≡ required_from n f us from m
  required-from from zero l = refl
  required-from from (suc m) l = ap₂ (λ (a b : List Required). a ++ b) (required_of_lem from (omega arith)) (required-from (suc from) m (omega arith))

  privileged-from : (from m : ℕ) → from + m ≤ count ts → privileged_from n f ts from m ≡ privileged_from n f us from m
  privileged-from from zero l = refl
  privileged-from from (suc m) l = of_ends (put (privileged_from n f ts (suc from) m)) from (omega arith) ∙ ap (λ r. put r (start us from) (end us from)) (privileged-from (suc from) m (omega arith))
    where
      put : List Privileged → ℕ → ℕ → List Privileged
      put r a b = elim (dynamic (kind f a b)) [ true ↦ record { transition = from; cube = span n a b; start = start_point (kind f a b) a b } ∷ r | false ↦ r ]

  visited-same : (x : ℕ) → visited n ts x ≡ visited n us x
  visited-same x =
      ap found (first-same (λ k. visits n ts k x) (λ k. visits n us k x) 0 (count ts) (λ k b l. of_ends (λ a b. has (span n a b) x) k (omega arith)))
      ∙ ap (λ m. found (first (λ k. visits n us k x) 0 m)) same.many

  points_same : of_points n f ts ≡ of_points n f us
  points_same = ap₂ (single_points n) same.many (fun_ext (λ x. ap (λ v. eqb (value f x) 1 && not v) (visited-same x)))

  pub required-same : required n f ts ≡ required n f us
  required-same = ap₂ (λ (a b : List Required). a ++ b) (required-from 0 (count ts) (omega arith) ∙ ap (required_from n f us 0) same.many) points_same

  pub privileged-same : privileged n f ts ≡ privileged n f us
  privileged-same = privileged-from 0 (count ts) (omega arith) ∙ ap (privileged_from n f us 0) same.many

  -- So the verifier's faults and refusal 10 are the same.
  pub fault-same : (net : Network) → fault n f ts net ≡ fault n f us net
  fault-same net = ap₂ (λ (vs : List Privileged) (rs : List Required). first_fault (fault_a n (off f) net) (fault_c vs net) (fault_b rs net)) privileged-same required-same

  pub blocking-same : blocking n f ts ≡ blocking n f us
  blocking-same = ap₂ (λ (vs : List Privileged) (rs : List Required). first_of (map (block_check n (off f) vs) rs)) privileged-same required-same
