-- Nowick and Dill's theorem: a network is a hazard-free cover exactly if it is hazard-free.
use mathlib.Core.Path.{◌≡◌, subst}
use mathlib.Core.Logic.{◌↔◌, inl, inr}
use mathlib.Core.List.{List, Memᴰ}
use Prim.Native.Nat.{ℕ, ◌^◌, ◌<◌}
use lib.Dec.{T, eqb→eq}
use lib.ListN.{length}
use Rattle.hazard.specs.Cube.{Cube, has}
use Rattle.hazard.specs.Transition.{value, start, end, count, off}
use Rattle.hazard.specs.Sets.{Required, Privileged, kind_at, start_at, of_transitions, unvisited, privileged}
use Rattle.hazard.specs.Implicant.{illegal}
use Rattle.hazard.specs.Cover.{Network, product_at, WellFormed, covered, Cover, HazardFreeCover}
use Rattle.hazard.specs.HazardFree.{HazardFree, VisitedHazardFree}
use Rattle.hazard.specs.Refusal.{Accepted}
use Rattle.hazard.proofs.Test.{tests, so, so_not}
use Rattle.hazard.proofs.Cube.{has→, →has, span-digits}
use Rattle.hazard.proofs.Implicant.{illegal→}
use Rattle.hazard.proofs.Rules.{rules_at}
use Rattle.hazard.proofs.Network.{at_places, Products, well_formed→, gives_i, covered_joint, covered-point}
use Rattle.hazard.proofs.Sets.{point_at, privileged_at, transition_e, point_e, required_cases, privileged_e}
use Rattle.hazard.proofs.Transition.{Anchored, CoverAt, cover_at}
use Rattle.hazard.proofs.Covers.{hazard_free-visited, cover→hazard_free}

module _ (n : ℕ) (f ts : List ℕ) (net : Network) (accepted : Accepted n f ts) (well : WellFormed n net) where
  good : Products n net
  good = well_formed→ well

  →legal : (k : ℕ) → Anchored n (start ts k) (end ts k) net (start_at f ts k) → (j : ℕ) → j < length net → ¬ T (illegal (product_at net j) (privileged_at n f ts k))
  →legal k h j l t =
      let i = illegal→ {v = privileged_at n f ts k} (good j l) (span-digits n (start ts k) (end ts k)) t in
      i.lacks (has→ (product_at net j) (start_at f ts k) (h j l i.shared (→has i.mine) (→has i.its)))

  -- The way back, from the visited 1s alone: the required cubes of the transitions are covered.
  pub visited→cover : VisitedHazardFree n f ts net → Cover n (off f) (of_transitions n f ts) (privileged n f ts) net
  visited→cover h =
      record {
        a = at_places (λ (p : Cube). (x : ℕ) → x < 2 ^ n → T (off f x) → ¬ T (has p x)) net (λ j l x m z t. so_not (h.zeros x m (eqb→eq (value f x) 0 z)) (gives_i net x j l t));
        b = λ r m.
            let w = transition_e n f ts m in
            subst (λ (q : Required). T (covered net q.cube)) w.4 ((covered_joint n net good (start_at f ts w.0) w.1).1 ((at' w.0 w.2).cubes w.1 w.3));
        c = at_places (λ (p : Cube). (v : Privileged) → Memᴰ v (privileged n f ts) → ¬ T (illegal p v)) net (λ j l v m.
            let w = privileged_e n f ts m in
            subst (λ (u : Privileged). ¬ T (illegal (product_at net j) u)) w.3 (→legal w.0 ((at' w.0 w.1).legal w.2) j l));
      }
    where
      at' : (k : ℕ) → k < count ts → CoverAt n f net (start ts k) (end ts k) (kind_at f ts k)
      at' k l =
          cover_at n f net (start ts k) (end ts k) good h.zeros (h.ones k l) (kind_at f ts k) (rules_at n f ts accepted k l) (h.runs k l)

  -- A single point is covered where the network gives 1 at it.
  pub hazard_free→cover : HazardFree n f ts net → HazardFreeCover n f ts net
  hazard_free→cover h = record { a = visited'.a; b = λ r m. elim (required_cases n f ts m) [ inl u ↦ visited'.b r u | inr u ↦ point r (point_e n f ts u) ]; c = visited'.c }
    where
      visited' : Cover n (off f) (of_transitions n f ts) (privileged n f ts) net
      visited' = visited→cover (hazard_free-visited h)

      point : (r : Required) → (x : ℕ) × (x < 2 ^ n) × T (unvisited n f ts x) × (point_at n ts x ≡ r) → T (covered net r.cube)
      point r (x, l, t, e) = subst (λ (q : Required). T (covered net q.cube)) e ((covered-point n net good x).1 (so (h.ones x l (simp tests at t).0)))

  -- Theorem 2.10 of the source.
  pub cover_hazard_free : HazardFreeCover n f ts net ↔ HazardFree n f ts net
  cover_hazard_free = (cover→hazard_free n f ts net accepted well, hazard_free→cover)
