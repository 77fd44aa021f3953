-- The first product that contains a cube, and what the products before it cover.
use mathlib.Core.Path.{◌≡◌, refl, ap, ◌∙◌}
use mathlib.Core.Bool.{Bool, true, false, ◌||◌}
use mathlib.Core.List.{List, [], ◌∷◌, ◌++◌, map}
use Rattle.std.specs.Prelude.{Option, None, Some}
use Rattle.std.proofs.lemmas.Option.{same_Some}
use Prim.Native.Nat.{ℕ, zero, suc, ◌+◌, ◌≤◌, ◌<◌}
use native.Mathlib.Omega.{arith}
use lib.Dec.{T}
use lib.ListN.{length, take, length-take, length-append, get_or-append}
use lib.Seq.{get_or-take, take-append_seam, take-append-le, get_or-append_seam}
use Rattle.hazard.specs.Cube.{Cube, inside}
use Rattle.hazard.specs.Cover.{Network, product_at, covered}
use Rattle.hazard.proofs.Search.{none-some, First, nowhere, lowest, first-is}
use Rattle.hazard.proofs.Network.{covered_e, covered_i}
use Rattle.choice.specs.First.{first_in}

-- A map of the first entries.
pub map-take : {A B : Type 0} (f : A → B) (j : ℕ) (l : List A) → map f (take j l) ≡ take j (map f l)
map-take f zero l = refl
map-take f (suc j) [] = refl
map-take f (suc j) (a ∷ l) = ap (λ m. f a ∷ m) (map-take f j l)

module _ (net : Network) (c : Cube) where
  -- The first product contains the cube, and those before it do not.
  pub first-covered : {j : ℕ} → first_in net c ≡ Some j → (j < length net) × T (inside c (product_at net j)) × (¬ T (covered (take j net) c))
  first-covered {j} e = go (first_in net c) e (first-is (λ k. inside c (product_at net k)) 0 (length net))
    where
      go : (o : Option ℕ) → o ≡ Some j → First (λ k. inside c (product_at net k)) 0 (length net) o → (j < length net) × T (inside c (product_at net j)) × (¬ T (covered (take j net) c))
      go None e v = none-some e
      go (Some k) e (lowest t l m h) =
          let q : k ≡ j = same_Some k j e in
          let b : j ≤ length net = omega arith in (
            omega arith,
            rw q at t,
            λ u. let (i, w, s) = covered_e (take j net) c u in
                let a : i < j = omega (arith, length-take j net) in
                h i (omega arith) (omega arith) (rw (get_or-take j net i [] a) at s),
          )

  -- And a product that contains the cube, where those before it do not, is the first.
  pub covered-first : (j : ℕ) → j < length net → T (inside c (product_at net j)) → ¬ T (covered (take j net) c) → first_in net c ≡ Some j
  covered-first j l t u = go (first_in net c) (first-is (λ k. inside c (product_at net k)) 0 (length net))
    where
      go : (o : Option ℕ) → First (λ k. inside c (product_at net k)) 0 (length net) o → o ≡ Some j
      go None (nowhere h) = absurd (h j (omega arith) (omega arith) t)
      go (Some k) (lowest s a b h) = ap Some (omega (arith, low, high))
        where
          low : ¬ (k < j)
          low p = u (covered_i (take j net) c k (omega (arith, length-take j net)) (rw (get_or-take j net k [] p) s))

          high : ¬ (j < k)
          high p = h j (omega arith) p t

  -- Where there is a first one, the network covers the cube.
  pub some-covered : {j : ℕ} → first_in net c ≡ Some j → T (covered net c)
  some-covered {j} e = let (l, t, u) = first-covered e in covered_i net c j l t

-- One product more: a place in the products before, then the new one.
product_front : (net : Network) (p : Cube) (j : ℕ) → j < length net → product_at (net ++ (p ∷ [])) j ≡ product_at net j
product_front net p j h = get_or-append net (p ∷ []) [] j h

product_last : (net : Network) (p : Cube) → product_at (net ++ (p ∷ [])) (length net) ≡ p
product_last net p = get_or-append_seam net p [] []

module _ (net : Network) (p c : Cube) where
  long : length (net ++ (p ∷ [])) ≡ length net + 1
  long = length-append net (p ∷ [])

  -- Once one product more has come, the first product is as it was, where there was one,
  pub first-before : {v : ℕ} → first_in net c ≡ Some v → first_in (net ++ (p ∷ [])) c ≡ Some v
  first-before {v} e =
      let (l, i, u) = first-covered net c e in
      covered-first (net ++ (p ∷ [])) c v (omega (arith, long)) (rw (product_front net p v l) i) (λ w. u (rw (take-append-le v net (p ∷ []) (omega arith)) at w))

  -- and else the new one, where that contains the cube.
  pub first_new : ¬ T (covered net c) → T (inside c p) → first_in (net ++ (p ∷ [])) c ≡ Some (length net)
  first_new n t = covered-first (net ++ (p ∷ [])) c (length net) (omega (arith, long)) (rw (product_last net p) t) (λ w. n (rw (take-append_seam net (p ∷ [])) at w))

-- What one product more covers.
pub covered_last : (net : Network) (p c : Cube) → covered (net ++ (p ∷ [])) c ≡ (inside c p || covered net c)
covered_last [] p c = refl
covered_last (q ∷ net) p c = ap (λ (b : Bool). inside c q || b) (covered_last net p c) ∙ swap (inside c q) (inside c p) (covered net c)
  where
    swap : (a b d : Bool) → (a || (b || d)) ≡ (b || (a || d))
    swap true true d = refl
    swap true false d = refl
    swap false b d = refl
