-- Choice: from products that cover the required cubes, going backwards, one is kept where some required cube lies in it,
-- in none before it and in none kept so far. What is kept covers, and none of it can be dropped.
use mathlib.Core.Logic.{◌⊎◌, inl, inr}
use mathlib.Core.List.{List, [], ◌∷◌, ◌++◌, Memᴰ}
use Prim.Native.Nat.{ℕ, zero, suc, ◌+◌, ◌≤◌, ◌<◌}
use native.Mathlib.Omega.{arith}
use native.Mathlib.Nat.{not-suc-le-zero, le_of_suc-le-suc}
use lib.Dec.{T}
use lib.ListN.{length, length-append}
use Rattle.hazard.specs.Cube.{Cube, inside}
use Rattle.hazard.specs.Sets.{Required}
use Rattle.hazard.specs.Cover.{Network, covered, without, Own, Irredundant}
use Rattle.hazard.proofs.Test.{or_l, or_r, or_e, known}

pub covered-append_l : (xs ys : Network) (c : Cube) → T (covered xs c) → T (covered (xs ++ ys) c)
covered-append_l [] ys c t = absurd t
covered-append_l (p ∷ xs) ys c t =
    elim (or_e (inside c p) (covered xs c) t) [ inl u ↦ or_l (inside c p) (covered (xs ++ ys) c) u | inr u ↦ or_r (inside c p) (covered (xs ++ ys) c) (covered-append_l xs ys c u) ]

pub covered-snoc : (xs : Network) (p c : Cube) → T (inside c p) → T (covered (xs ++ (p ∷ [])) c)
covered-snoc [] p c t = or_l (inside c p) (covered [] c) t
covered-snoc (q ∷ xs) p c t = or_r (inside c q) (covered (xs ++ (p ∷ [])) c) (covered-snoc xs p c t)

pub snoc-covered : (xs : Network) (p c : Cube) → T (covered (xs ++ (p ∷ [])) c) → T (covered xs c) ⊎ T (inside c p)
snoc-covered [] p c t = elim (or_e (inside c p) (covered [] c) t) [ inl u ↦ inr u | inr u ↦ absurd u ]
snoc-covered (q ∷ xs) p c t =
    elim (or_e (inside c q) (covered (xs ++ (p ∷ [])) c) t) [
      | inl u ↦ inl (or_l (inside c q) (covered xs c) u)
      | inr u ↦ elim (snoc-covered xs p c u) [ inl v ↦ inl (or_r (inside c q) (covered xs c) v) | inr v ↦ inr v ]
    ]

-- Where the choice stands: the products still to look at, and those kept.
pub record Chosen (rs : List Required) (ahead kept : Network) : Type 0 where
  pub covers : (r : Required) → Memᴰ r rs → ¬ T (covered kept r.cube) → T (covered ahead r.cube)
  pub own : (j : ℕ) → j < length kept → (o : Own rs kept j) × (¬ T (covered ahead o.cube.cube))
  pub few : length ahead + length kept ≤ length rs

module _ (rs : List Required) where
  pub choice_start : (net : Network) → ((r : Required) → Memᴰ r rs → T (covered net r.cube)) → length net ≤ length rs → Chosen rs net []
  choice_start net b l = record { covers = λ r m t. b r m; own = λ j h. absurd (not-suc-le-zero h); few = omega arith }

  module _ (ahead kept : Network) (p : Cube) (h : Chosen rs (ahead ++ (p ∷ [])) kept) where
    less : length ahead + suc (length kept) ≤ length rs
    less = omega (arith, h.few, length-append ahead (p ∷ []))

    -- p is kept, for a required cube that only p has.
    pub choice_keep : (r : Required) → Memᴰ r rs → T (inside r.cube p) → ¬ T (covered ahead r.cube) → ¬ T (covered kept r.cube) → Chosen rs ahead (p ∷ kept)
    choice_keep r m i na nk =
        record {
          covers = λ q u t. elim (snoc-covered ahead p q.cube (h.covers q u (λ v. t (or_r (inside q.cube p) (covered kept q.cube) v)))) [
            | inl v ↦ v
            | inr v ↦ absurd (t (or_l (inside q.cube p) (covered kept q.cube) v))
          ];
          own = own';
          few = less;
        }
      where
        own' : (j : ℕ) → j < suc (length kept) → (o : Own rs (p ∷ kept) j) × (¬ T (covered ahead o.cube.cube))
        own' zero l = (record { cube = r; listed = m; mine = i; alone = nk }, na)
        own' (suc j) l =
            let (o, n) = h.own j (le_of_suc-le-suc l) in
            let c = o.cube.cube in (
              record {
                cube = o.cube;
                listed = o.listed;
                mine = o.mine;
                alone = λ t. elim (or_e (inside c p) (covered (without j kept) c) t) [ inl u ↦ n (covered-snoc ahead p c u) | inr u ↦ o.alone u ];
              },
              λ t. n (covered-append_l ahead (p ∷ []) c t),
            )

    -- p is passed over: each required cube in p lies in one before it or in one kept.
    pub choice_skip : ((r : Required) → Memᴰ r rs → T (inside r.cube p) → ¬ T (covered ahead r.cube) → T (covered kept r.cube)) → Chosen rs ahead kept
    choice_skip s =
        record {
          covers = λ r m t. elim (snoc-covered ahead p r.cube (h.covers r m t)) [
            | inl v ↦ v
            | inr v ↦ elim (known (covered ahead r.cube)) [ inl u ↦ u | inr u ↦ absurd (t (s r m v u)) ]
          ];
          own = λ j l. let (o, n) = h.own j l in (o, λ t. n (covered-append_l ahead (p ∷ []) o.cube.cube t));
          few = omega (arith, less);
        }

  -- At the end what is kept covers every required cube, and each product has one of its own.
  pub choice_covers : (kept : Network) → Chosen rs [] kept → (r : Required) → Memᴰ r rs → T (covered kept r.cube)
  choice_covers kept h r m = elim (known (covered kept r.cube)) [ inl t ↦ t | inr t ↦ absurd (h.covers r m t) ]

  pub choice_irredundant : (kept : Network) → Chosen rs [] kept → Irredundant rs kept
  choice_irredundant kept h j l = (h.own j l).0
