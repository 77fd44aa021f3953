-- The entries of the lists of required and of privileged cubes, and their order.
use mathlib.Core.Path.{◌≡◌, refl, sym, ap, subst, subst⁻¹}
use mathlib.Core.Logic.{◌⊎◌, inl, inr, ∥∥₁_elim}
use mathlib.Core.Bool.{Bool, true, false}
use mathlib.Core.List.Memᴰ
use mathlib.Core.List.Pairwise
use mathlib.Core.List.{List, ◌∷◌, Memᴰ, Pairwise, Pairwise-append, Pairwise-singleton}
use Prim.Native.Nat.{ℕ, zero, suc, ◌+◌, ◌^◌, ◌≤◌, ◌<◌}
use native.Mathlib.Omega.{arith}
use native.Mathlib.Bridge.{le_prop}
use native.Mathlib.Decide.{ℕ_discrete}
use lib.Dec.{T}
use Rattle.hazard.specs.Search.{those}
use Rattle.hazard.specs.Cube.{span}
use Rattle.hazard.specs.Transition.{start, end, count, visits, visited, Kind, low, rise, fall, high}
use Rattle.hazard.specs.Sets.{Required, Privileged, maximal_label, labels, dynamic, kind_at, start_at, required_of, required_from, of_transitions, unvisited, of_points, required, privileged_from, privileged}
use Rattle.hazard.proofs.Test.{so, so_not}
use Rattle.hazard.proofs.Search.{any_e, any_i, those_e, those_i, those_order}
use Rattle.hazard.proofs.Cube.{Digits, span-digits}
use Rattle.hazard.proofs.Implicant.{Wide}
use Rattle.hazard.proofs.Order.{Before, before_prop, points_order}

-- A visited point has a transition that visits it.
pub visited_e : (n : ℕ) (ts : List ℕ) (x : ℕ) → T (visited n ts x) → (k : ℕ) × (k < count ts) × T (visits n ts k x)
visited_e n ts x t = any_e (λ k. visits n ts k x) (count ts) t

pub visited_i : (n : ℕ) (ts : List ℕ) (x k : ℕ) → k < count ts → T (visits n ts k x) → T (visited n ts x)
visited_i n ts x k l t = any_i (λ k. visits n ts k x) (count ts) k l t

-- The single point x.
abbrev pub point_at : ℕ → List ℕ → ℕ → Required
point_at n ts x = record { transition = count ts; label = x; cube = span n x x }

labels_order : (n : ℕ) (f : List ℕ) (k : Kind) (a b : ℕ) → Pairwise (λ x y. x < y) (labels n f k a b)
labels_order n f low a b = Pairwise.nil
labels_order n f rise a b = those_order (maximal_label n f b a) 0 (2 ^ n)
labels_order n f fall a b = those_order (maximal_label n f a b) 0 (2 ^ n)
labels_order n f high a b = Pairwise-singleton (λ x y. x < y) b

module _ (n : ℕ) (f ts : List ℕ) where
  -- The labels of transition k, and its required cube with the label x.
  abbrev pub labels_at : ℕ → List ℕ
  labels_at k = labels n f (kind_at f ts k) (start ts k) (end ts k)

  abbrev pub required_at : ℕ → ℕ → Required
  required_at k x = record { transition = k; label = x; cube = span n (start_at f ts k) x }

  -- The privileged cube of transition k, if it is dynamic.
  abbrev pub privileged_at : ℕ → Privileged
  privileged_at k = record { transition = k; cube = span n (start ts k) (end ts k); start = start_at f ts k }

  required_from_i : (from m k x : ℕ) → from ≤ k → k < from + m → Memᴰ x (labels_at k) → Memᴰ (required_at k x) (required_from n f ts from m)
  required_from_i from zero k x l h t = absurd (omega arith)
  required_from_i from (suc m) k x l h t =
      elim (ℕ_discrete from k) [
        | yes e ↦ Memᴰ.append_left (required_from n f ts (suc from) m) (subst⁻¹ (λ (z : ℕ). Memᴰ (required_at k x) (required_of n f ts z)) e (Memᴰ.map (required_at k) t))
        | no ne ↦ Memᴰ.append_right (required_of n f ts from) (required_from_i (suc from) m k x (omega arith) (omega arith) t)
      ]

  required_from_e : (from m : ℕ) {r : Required} → Memᴰ r (required_from n f ts from m)
      → (k : ℕ) × (x : ℕ) × (from ≤ k) × (k < from + m) × Memᴰ x (labels_at k) × (required_at k x ≡ r)
  required_from_e from zero t = absurd (Memᴰ.not-nil t)
  required_from_e from (suc m) t =
      elim (Memᴰ.append_cases (required_of n f ts from) t) [
        | inl u ↦ let w = Memᴰ.of_map (required_at from) (labels_at from) u in (from, w.0, omega arith, omega arith, w.1, w.2)
        | inr u ↦ let w = required_from_e (suc from) m u in (w.0, w.1, omega (arith, w.2), omega (arith, w.3), w.4, w.5)
      ]

  -- The required cubes of the transitions.
  pub transition_i : (k x : ℕ) → k < count ts → Memᴰ x (labels_at k) → Memᴰ (required_at k x) (of_transitions n f ts)
  transition_i k x l t = required_from_i 0 (count ts) k x (omega arith) (omega arith) t

  pub transition_e : {r : Required} → Memᴰ r (of_transitions n f ts) → (k : ℕ) × (x : ℕ) × (k < count ts) × Memᴰ x (labels_at k) × (required_at k x ≡ r)
  transition_e t = let w = required_from_e 0 (count ts) t in (w.0, w.1, omega (arith, w.3), w.4, w.5)

  -- The single points.
  pub point_i : (x : ℕ) → x < 2 ^ n → T (unvisited n f ts x) → Memᴰ (point_at n ts x) (of_points n f ts)
  point_i x l t = Memᴰ.map (point_at n ts) (those_i (unvisited n f ts) 0 (2 ^ n) x (omega arith) (omega arith) t)

  pub point_e : {r : Required} → Memᴰ r (of_points n f ts) → (x : ℕ) × (x < 2 ^ n) × T (unvisited n f ts x) × (point_at n ts x ≡ r)
  point_e t =
      let (x, m, e) = Memᴰ.of_map (point_at n ts) (those (unvisited n f ts) 0 (2 ^ n)) t in
      let w = those_e (unvisited n f ts) 0 (2 ^ n) m in
      (x, omega (arith, w.1), w.2, e)

  required_from_order : (from m : ℕ) → Pairwise Before (required_from n f ts from m)
  required_from_order from zero = Pairwise.nil
  required_from_order from (suc m) =
      (Pairwise-append before_prop).1 (
        Pairwise.map {S = Before} before_prop (required_at from) (λ x y l. (omega arith, λ e. l)) (labels_order n f (kind_at f ts from) (start ts from) (end ts from)),
        required_from_order (suc from) m,
        λ r t s u. ∥∥₁_elim t (before_prop r s) (λ d. ∥∥₁_elim u (before_prop r s) (λ e. later r s d e)),
      )
    where
      later : (r s : Required) → Memᴰ r (required_of n f ts from) → Memᴰ s (required_from n f ts (suc from) m) → Before r s
      later r s d e =
          let w = Memᴰ.of_map (required_at from) (labels_at from) d in
          let v = required_from_e (suc from) m e in
          let i : from ≡ r.transition = ap (λ (q : Required). q.transition) w.2 in
          let j : v.0 ≡ s.transition = ap (λ (q : Required). q.transition) v.5 in
          (omega (arith, v.2), λ c. absurd (omega (arith, v.2)))

  -- The required cubes stand in order of transition, then of label, the single points after all others.
  pub required_order : Pairwise Before (required n f ts)
  required_order =
      (Pairwise-append before_prop).1 (
        required_from_order 0 (count ts),
        points_order n (count ts) (unvisited n f ts),
        λ r t s u. ∥∥₁_elim t (before_prop r s) (λ d. ∥∥₁_elim u (before_prop r s) (λ e. later r s d e)),
      )
    where
      later : (r s : Required) → Memᴰ r (of_transitions n f ts) → Memᴰ s (of_points n f ts) → Before r s
      later r s d e =
          let (k, x, l, m, g) = transition_e d in
          let (y, b, t, h) = point_e e in
          let i : k ≡ r.transition = ap (λ (q : Required). q.transition) g in
          let j : count ts ≡ s.transition = ap (λ (q : Required). q.transition) h in
          (omega arith, λ c. absurd (omega arith))

  -- A required cube is one or the other.
  pub required-transition : {r : Required} → Memᴰ r (of_transitions n f ts) → Memᴰ r (required n f ts)
  required-transition t = Memᴰ.append_left (of_points n f ts) t

  pub required-point : {r : Required} → Memᴰ r (of_points n f ts) → Memᴰ r (required n f ts)
  required-point t = Memᴰ.append_right (of_transitions n f ts) t

  pub required_cases : {r : Required} → Memᴰ r (required n f ts) → Memᴰ r (of_transitions n f ts) ⊎ Memᴰ r (of_points n f ts)
  required_cases t = Memᴰ.append_cases (of_transitions n f ts) t

  pub required-digits : (r : Required) → Memᴰ r (required n f ts) → Digits n r.cube
  required-digits r t =
      elim (required_cases t) [
        | inl u ↦ let w = transition_e u in subst (λ (q : Required). Digits n q.cube) w.4 (span-digits n (start_at f ts w.0) w.1)
        | inr u ↦ let w = point_e u in subst (λ (q : Required). Digits n q.cube) w.3 (span-digits n w.0 w.0)
      ]

  privileged_from_i : (from m k : ℕ) → from ≤ k → k < from + m → T (dynamic (kind_at f ts k)) → Memᴰ (privileged_at k) (privileged_from n f ts from m)
  privileged_from_i from zero k l h t = absurd (omega arith)
  privileged_from_i from (suc m) k l h t = go (λ ne. privileged_from_i (suc from) m k (omega arith) (omega arith) t) (dynamic (kind_at f ts from)) refl
    where
      go : (¬ (from ≡ k) → Memᴰ (privileged_at k) (privileged_from n f ts (suc from) m)) → (b : Bool) → dynamic (kind_at f ts from) ≡ b
          → Memᴰ (privileged_at k) (elim b [ true ↦ privileged_at from ∷ privileged_from n f ts (suc from) m | false ↦ privileged_from n f ts (suc from) m ])
      go below true b = elim (ℕ_discrete from k) [ yes e ↦ Memᴰ.head (ap privileged_at (sym e)) | no ne ↦ Memᴰ.tail (below ne) ]
      go below false b = below (λ q. so_not b (subst⁻¹ (λ (z : ℕ). T (dynamic (kind_at f ts z))) q t))

  privileged_from_e : (from m : ℕ) {v : Privileged} → Memᴰ v (privileged_from n f ts from m) → (k : ℕ) × (from ≤ k) × (k < from + m) × T (dynamic (kind_at f ts k)) × (privileged_at k ≡ v)
  privileged_from_e from zero t = absurd (Memᴰ.not-nil t)
  privileged_from_e from (suc m) {v} t = go (λ u. let w = privileged_from_e (suc from) m u in (w.0, omega (arith, w.1), omega (arith, w.2), w.3, w.4)) (dynamic (kind_at f ts from)) refl t
    where
      go : (Memᴰ v (privileged_from n f ts (suc from) m) → (k : ℕ) × (from ≤ k) × (k < from + suc m) × T (dynamic (kind_at f ts k)) × (privileged_at k ≡ v)) → (b : Bool) → dynamic (kind_at f ts from) ≡ b
          → Memᴰ v (elim b [ true ↦ privileged_at from ∷ privileged_from n f ts (suc from) m | false ↦ privileged_from n f ts (suc from) m ])
          → (k : ℕ) × (from ≤ k) × (k < from + suc m) × T (dynamic (kind_at f ts k)) × (privileged_at k ≡ v)
      go below true b u = elim (Memᴰ.cases_cons u) [ inl e ↦ (from, omega arith, omega arith, so b, sym e) | inr w ↦ below w ]
      go below false b u = below u

  pub privileged_i : (k : ℕ) → k < count ts → T (dynamic (kind_at f ts k)) → Memᴰ (privileged_at k) (privileged n f ts)
  privileged_i k l t = privileged_from_i 0 (count ts) k (omega arith) (omega arith) t

  pub privileged_e : {v : Privileged} → Memᴰ v (privileged n f ts) → (k : ℕ) × (k < count ts) × T (dynamic (kind_at f ts k)) × (privileged_at k ≡ v)
  privileged_e t = let w = privileged_from_e 0 (count ts) t in (w.0, omega (arith, w.2), w.3, w.4)

  pub privileged_wide : Wide n (privileged n f ts)
  privileged_wide v t = let w = privileged_e t in subst (λ (u : Privileged). Digits n u.cube) w.3 (span-digits n (start ts w.0) (end ts w.0))

  privileged_from_order : (from m : ℕ) → Pairwise (λ (v w : Privileged). v.transition < w.transition) (privileged_from n f ts from m)
  privileged_from_order from zero = Pairwise.nil
  privileged_from_order from (suc m) = go (dynamic (kind_at f ts from)) (privileged_from_order (suc from) m)
    where
      Order : List Privileged → Type 0
      Order = Pairwise (λ (v w : Privileged). v.transition < w.transition)

      go : (b : Bool) → Order (privileged_from n f ts (suc from) m)
          → Order (elim b [ true ↦ privileged_at from ∷ privileged_from n f ts (suc from) m | false ↦ privileged_from n f ts (suc from) m ])
      go true next = Pairwise.cons (λ w d. ∥∥₁_elim d le_prop (λ u. let r = privileged_from_e (suc from) m u in subst (λ (w : Privileged). from < w.transition) r.4 r.1)) next
      go false next = next

  -- The privileged cubes stand in order of transition, each transition at most once.
  pub privileged_order : Pairwise (λ (v w : Privileged). v.transition < w.transition) (privileged n f ts)
  privileged_order = privileged_from_order 0 (count ts)
