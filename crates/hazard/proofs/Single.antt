-- Single points: they meet no privileged cube, grow in no step and never block, so whether there is a cover does not depend on them.
use mathlib.Core.Path.{◌≡◌, sym, ap, subst}
use mathlib.Core.Logic.{◌↔◌, inl, inr}
use mathlib.Core.Bool.{◌&&◌}
use mathlib.Core.List.{List, Memᴰ}
use Rattle.std.specs.Prelude.{None}
use Prim.Native.Nat.{ℕ, ◌^◌, ◌<◌}
use native.Mathlib.Omega.{arith}
use lib.Dec.{T}
use Rattle.hazard.specs.Cube.{has, span, meets}
use Rattle.hazard.specs.Transition.{value, off, visits}
use Rattle.hazard.specs.Sets.{Required, Privileged, of_transitions, unvisited, of_points, required, privileged}
use Rattle.hazard.specs.Implicant.{illegal, lowest_zero}
use Rattle.hazard.specs.Growth.{Legal, Grown, grow}
use Rattle.hazard.specs.Cover.{Network, WellFormed, Cover, HazardFreeCover}
use Rattle.hazard.proofs.Test.{tests, T_and}
use Rattle.hazard.proofs.Search.{none_first, find_none}
use Rattle.hazard.proofs.Cube.{→has, meets→, span-digits}
use Rattle.hazard.proofs.Point.{span_self}
use Rattle.hazard.proofs.Sets.{visited_i, point_e, required-transition, required_cases, required-digits, privileged_e, privileged_wide}
use Rattle.hazard.proofs.Growth.{done, grows_once, grow-runs}
use Rattle.hazard.proofs.Existence.{cover_exists}

module _ (n : ℕ) (f ts : List ℕ) where
  module _ (x : ℕ) (small : x < 2 ^ n) (alone : T (unvisited n f ts x)) where
    -- A privileged cube is the cube of a transition, and that does not visit the point.
    point-meets : (v : Privileged) → Memᴰ v (privileged n f ts) → ¬ T (meets (span n x x) v.cube)
    point-meets v m t =
        let (k, l, d, e) = privileged_e n f ts m in
        let (y, u, i, j) = meets→ (span-digits n x x) (privileged_wide n f ts v m) t in
        let q : x ≡ y = span_self n x y small u (→has i) in
        let w : T (visits n ts k x) = rw q (subst (λ (c : Privileged). T (has c.cube y)) (sym e) (→has j)) in
        (simp tests at alone).1 (visited_i n ts x k l w)

    point-clean : lowest_zero n (off f) (span n x x) ≡ None
    point-clean = none_first (λ y. has (span n x x) y && off f y) 0 (2 ^ n) (λ y a b t.
        let (h, o) = simp tests at t in
        let q = ap (value f) (span_self n x y small (omega arith) h) in
        omega (arith, (simp tests at alone).0))

    point-grow : grow n (off f) (privileged n f ts) (span n x x) ≡ Legal (span n x x) 0
    point-grow =
        grows_once n (off f) (privileged n f ts) (grow-runs n (off f) (privileged n f ts) (privileged_wide n f ts) (span-digits n x x))
        (done point-clean ((find_none (illegal (span n x x)) (privileged n f ts)).1 (λ v m t. point-meets v m (simp T_and at t).0)))

  -- A single point meets no privileged cube,
  pub single_meets : (r : Required) → Memᴰ r (of_points n f ts) → (v : Privileged) → Memᴰ v (privileged n f ts) → ¬ T (meets r.cube v.cube)
  single_meets r m v u = let (x, l, t, e) = point_e n f ts m in subst (λ (q : Required). ¬ T (meets q.cube v.cube)) e (point-meets x l t v u)

  -- and is legal as it is.
  pub single_grow : (r : Required) → Memᴰ r (of_points n f ts) → grow n (off f) (privileged n f ts) r.cube ≡ Legal r.cube 0
  single_grow r m =
      let (x, l, t, e) = point_e n f ts m in
      subst (λ (q : Required). grow n (off f) (privileged n f ts) q.cube ≡ Legal q.cube 0) e (point-grow x l t)

  pub single_grown : (r : Required) → Memᴰ r (of_points n f ts) → Grown (grow n (off f) (privileged n f ts) r.cube)
  single_grown r m = subst Grown (sym (single_grow r m)) tt

  -- There is a cover of the transitions' required cubes exactly if there is one of all.
  pub cover-transitions : ((net : Network) × WellFormed n net × Cover n (off f) (of_transitions n f ts) (privileged n f ts) net)
      ↔ ((net : Network) × WellFormed n net × HazardFreeCover n f ts net)
  cover-transitions =
      let few = cover_exists n (off f) (of_transitions n f ts) (privileged n f ts) (privileged_wide n f ts) (λ r m. required-digits n f ts r (required-transition n f ts m)) in
      let all = cover_exists n (off f) (required n f ts) (privileged n f ts) (privileged_wide n f ts) (required-digits n f ts) in (
        λ h. all.0 (λ r m. elim (required_cases n f ts m) [ inl u ↦ few.1 h r u | inr u ↦ single_grown r u ]),
        λ h. few.0 (λ r m. all.1 h r (required-transition n f ts m)),
      )
