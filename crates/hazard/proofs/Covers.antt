-- A hazard-free cover is hazard-free.
use mathlib.Core.Path.{◌≡◌}
use mathlib.Core.Logic.{inl, inr}
use mathlib.Core.Bool.{true, false}
use mathlib.Core.List.{List, Memᴰ}
use Prim.Native.Nat.{ℕ, ◌^◌, ◌<◌}
use lib.Dec.{T}
use lib.ListN.{length}
use Rattle.hazard.specs.Cube.{Cube, has, span}
use Rattle.hazard.specs.Transition.{value, start, end, count, off}
use Rattle.hazard.specs.Sets.{kind_at, start_at}
use Rattle.hazard.specs.Implicant.{illegal}
use Rattle.hazard.specs.Cover.{Network, product_at, WellFormed, gives, HazardFreeCover}
use Rattle.hazard.specs.Run.{Allowed}
use Rattle.hazard.specs.HazardFree.{HazardFree, VisitedHazardFree}
use Rattle.hazard.specs.Refusal.{Accepted}
use Rattle.hazard.proofs.Test.{is, isnt, known, eqb_of}
use Rattle.hazard.proofs.Cube.{has→, →has, inside→, inside-has, span-digits}
use Rattle.hazard.proofs.Implicant.{→illegal}
use Rattle.hazard.proofs.Rules.{rules_at}
use Rattle.hazard.proofs.Network.{entry_at, Products, well_formed→, gives_e, gives_i, covered_e, covered_joint}
use Rattle.hazard.proofs.Sets.{required_at, privileged_at, transition_i, required-transition, privileged_i}
use Rattle.hazard.proofs.One.{one-required}
use Rattle.hazard.proofs.Moment.{Runs}
use Rattle.hazard.proofs.Transition.{Anchored, runs_at}

-- (a): the network gives 0 at each 0 of the table.
pub gives-zeros : (n : ℕ) (f : List ℕ) (net : Network) → ((p : Cube) → Memᴰ p net → (x : ℕ) → x < 2 ^ n → T (off f x) → ¬ T (has p x))
    → (x : ℕ) → x < 2 ^ n → value f x ≡ 0 → gives net x ≡ false
gives-zeros n f net a x l z = isnt (gives net x) (λ t. let (j, h, u) = gives_e net x t in a (product_at net j) (entry_at net j h) x l (eqb_of z) u)

-- A hazard-free network is so at the visited 1s.
pub hazard_free-visited : {n : ℕ} {f ts : List ℕ} {net : Network} → HazardFree n f ts net → VisitedHazardFree n f ts net
hazard_free-visited h = record { zeros = h.zeros; ones = λ k l x m t. h.ones x m; runs = h.runs }

module _ (n : ℕ) (f ts : List ℕ) (net : Network) (accepted : Accepted n f ts) (well : WellFormed n net) where
  good : Products n net
  good = well_formed→ well

  -- No product intersects the privileged cube of transition k illegally exactly if every product that has a point of it contains its start point.
  pub legal→ : (k : ℕ) → ((j : ℕ) → j < length net → ¬ T (illegal (product_at net j) (privileged_at n f ts k))) → Anchored n (start ts k) (end ts k) net (start_at f ts k)
  legal→ k h j l x t u = elim (known (has (product_at net j) (start_at f ts k))) [
    | inl s ↦ s
    | inr s ↦ absurd (h j l (→illegal {v = privileged_at n f ts k} (good j l) (span-digits n (start ts k) (end ts k)) (record {
      shared = x;
      mine = has→ (product_at net j) x t;
      its = has→ (span n (start ts k) (end ts k)) x u;
      lacks = λ i. s (→has i);
    })))
  ]

  pub cover→hazard_free : HazardFreeCover n f ts net → HazardFree n f ts net
  cover→hazard_free h = record { zeros = zeros'; ones = ones'; runs = runs' }
    where
      zeros' : (x : ℕ) → x < 2 ^ n → value f x ≡ 0 → gives net x ≡ false
      zeros' = gives-zeros n f net h.a

      ones' : (x : ℕ) → x < 2 ^ n → value f x ≡ 1 → gives net x ≡ true
      ones' x l v =
          let (r, m, t) = one-required n f ts accepted x l v in
          let (j, u, i) = covered_e net r.cube (h.b r m) in
          is (gives_i net x j u (→has (inside-has (inside→ r.cube (product_at net j) i) (has→ r.cube x t))))

      runs' : (k : ℕ) → k < count ts → Runs (start ts k) (end ts k) net (Allowed (kind_at f ts k))
      runs' k l =
          runs_at n f net (start ts k) (end ts k) good zeros' (λ x m t. ones' x m) (kind_at f ts k) (rules_at n f ts accepted k l)
          (record {
            cubes = λ x m. (covered_joint n net good (start_at f ts k) x).0 (h.b (required_at n f ts k x) (required-transition n f ts (transition_i n f ts k x l m)));
            legal = λ d. legal→ k (λ j u. h.c (product_at net j) (entry_at net j u) (privileged_at n f ts k) (privileged_i n f ts k l d));
          })
