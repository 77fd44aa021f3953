-- Refusal 10: the first required cube that blocks.
use mathlib.Core.Path.{◌≡◌, refl, sym, ap, ◌∙◌}
use mathlib.Core.Logic.{◌↔◌}
use mathlib.Core.Bool.{Bool, ◌&&◌}
use mathlib.Core.List.{List, map, map-append, Memᴰ}
use Rattle.std.specs.Prelude.{Option, None, Some}
use Rattle.std.proofs.lemmas.Option.{same_Some}
use Prim.Native.Nat.{ℕ, ◌^◌, ◌≤◌, ◌<◌}
use native.Mathlib.Omega.{arith}
use Rattle.hazard.specs.Search.{first_of}
use Rattle.hazard.specs.Cube.{has}
use Rattle.hazard.specs.Transition.{off, count}
use Rattle.hazard.specs.Sets.{Required, Privileged, of_transitions, of_points, required, privileged}
use Rattle.hazard.specs.Implicant.{lowest_zero}
use Rattle.hazard.specs.Growth.{Growth, Legal, Blocked, steps, Grown, grow}
use Rattle.hazard.specs.Refusal.{Refusal, Accepted}
use Rattle.hazard.specs.Minimal.{blocked_by, block_check, blocking, FirstBlocking}
use Rattle.hazard.proofs.Test.{tests}
use Rattle.hazard.proofs.Search.{none-some, none_first, first_of-map, first_of-rest, first_of_split, first_of-some}
use Rattle.hazard.proofs.Sets.{transition_e, privileged_wide, required-digits}
use Rattle.hazard.proofs.Implicant.{Wide}
use Rattle.hazard.proofs.Growth.{Grows, blocked_later, grow-runs, grow-steps}
use Rattle.hazard.proofs.Source.{required-ones}
use Rattle.hazard.proofs.Single.{single_grown}

-- A growth that ends blocked is refusal 10, and no other.
pub block_none : (n : ℕ) (off : ℕ → Bool) (vs : List Privileged) (r : Required) → (block_check n off vs r ≡ None) ↔ Grown (grow n off vs r.cube)
block_none n off vs r = go (grow n off vs r.cube)
  where
    go : (g : Growth) → (blocked_by r g ≡ None) ↔ Grown g
    go (Legal c s) = (λ e. tt, λ t. refl)
    go (Blocked z s) = (λ e. none-some (sym e), λ t. absurd t)

module _ (n : ℕ) (f ts : List ℕ) where
  -- It is that of the transitions' required cubes alone,
  pub blocking-transitions : blocking n f ts ≡ first_of (map (block_check n (off f) (privileged n f ts)) (of_transitions n f ts))
  blocking-transitions =
      ap first_of (map-append check (of_transitions n f ts) (of_points n f ts))
      ∙ first_of-rest (map check (of_transitions n f ts)) (map check (of_points n f ts))
      ((first_of-map check (of_points n f ts)).1 (λ r m. (block_none n (off f) (privileged n f ts) r).1 (single_grown n f ts r m)))
    where
      check : Required → Option Refusal
      check = block_check n (off f) (privileged n f ts)

  -- so it never names the number of transitions.
  pub block_transition : (q : Refusal) → blocking n f ts ≡ Some q → q.transition < count ts
  block_transition q e =
      let (r, m, h) = first_of-some (block_check n (off f) (privileged n f ts)) (of_transitions n f ts) (sym blocking-transitions ∙ e) in
      let (k, x, l, u, d) = transition_e n f ts m in
      omega (arith, ap (λ (c : Required). c.transition) d, go r (grow n (off f) (privileged n f ts) r.cube) h)
    where
      go : (r : Required) (g : Growth) → blocked_by r g ≡ Some q → r.transition ≡ q.transition
      go r (Legal c s) h = none-some h
      go r (Blocked z s) h = ap (λ (c : Refusal). c.transition) (same_Some _ _ h)

module _ (n : ℕ) (f ts : List ℕ) (accepted : Accepted n f ts) where
  -- A required cube contains no zero, so one that blocks has taken at least one step; and at most n.
  pub block_steps : (q : Refusal) → blocking n f ts ≡ Some q → (1 ≤ q.steps) × (q.steps ≤ n)
  block_steps q e =
      let (r, m, h) = first_of-some (block_check n (off f) (privileged n f ts)) (required n f ts) e in
      let w = required-digits n f ts r m in
      go r (grow n (off f) vs r.cube) (grow-runs n (off f) vs wide w) (grow-steps n (off f) vs wide w) (free r m) h
    where
      vs : List Privileged
      vs = privileged n f ts

      wide : Wide n vs
      wide = privileged_wide n f ts

      free : (r : Required) → Memᴰ r (required n f ts) → lowest_zero n (off f) r.cube ≡ None
      free r m = none_first (λ x. has r.cube x && off f x) 0 (2 ^ n)
          (λ x a b t. let (h, o) = simp tests at t in omega (arith, required-ones n f ts accepted r m x (omega arith) h))

      go : (r : Required) (g : Growth) → Grows n (off f) vs r.cube 0 g → steps g ≤ n → lowest_zero n (off f) r.cube ≡ None → blocked_by r g ≡ Some q → (1 ≤ q.steps) × (q.steps ≤ n)
      go r (Legal c s) u l k h = none-some h
      go r (Blocked z s) u l k h = let e : s ≡ q.steps = ap (λ (x : Refusal). x.steps) (same_Some _ _ h) in (omega (arith, blocked_later n (off f) vs k u), omega arith)

  -- The cube that blocks is the first that does.
  pub first-blocking : (q : Refusal) → blocking n f ts ≡ Some q → FirstBlocking n f ts q
  first-blocking q e =
      let s = first_of_split (block_check n (off f) (privileged n f ts)) (required n f ts) e in
      let (l, h) = block_steps q e in
      record {
        earlier = s.earlier;
        cube = s.entry;
        later = s.later;
        listed = s.parts;
        free = λ r m. (block_none n (off f) (privileged n f ts) r).0 (s.before r m);
        blocks = s.here;
        among = block_transition n f ts q e;
        taken = l;
        few = h;
      }
