-- A computed test that finds the only minimal network: each required cube has a greatest dhf-implicant around it, and those are the products.
use mathlib.Core.Path.{◌≡◌, refl, sym, subst}
use mathlib.Core.Logic.{inl, inr}
use mathlib.Core.Bool.{Bool, not, ◌&&◌}
use mathlib.Core.List.Memᴰ
use mathlib.Core.List.{List, [], ◌∷◌, ◌++◌, map, Memᴰ}
use Rattle.std.specs.Prelude.{Option, None, Some}
use Prim.Native.Nat.{ℕ, zero, suc, ◌≤◌, ◌<◌}
use native.Mathlib.Omega.{arith}
use lib.Dec.{T}
use lib.ListN.{length}
use Rattle.hazard.specs.Search.{found, first, find}
use Rattle.hazard.specs.Cube.{Cube, is_product, inside}
use Rattle.hazard.specs.Transition.{off}
use Rattle.hazard.specs.Sets.{Required, required, privileged}
use Rattle.hazard.specs.Implicant.{dhf_implicant, DhfPrime}
use Rattle.hazard.specs.Cover.{Network, product_at, covered, without, Irredundant}
use Rattle.hazard.specs.Sequence.{ascending}
use Rattle.hazard.specs.Refusal.{Accepted}
use Rattle.hazard.specs.Minimal.{Minimal}
use Rattle.hazard.proofs.Test.{T_and, T_no, sure}
use Rattle.hazard.proofs.Search.{not_found, Find, hit, find-is, find_none, first-none}
use Rattle.hazard.proofs.Cube.{Digits, nil, cons, digits→, inside→, →inside, inside_trans, inside_antisym}
use Rattle.hazard.proofs.Network.{place_of, entry_at, entry_cases, covered_entry, covered_by}
use Rattle.hazard.proofs.Sequence.{ascending_once}
use Rattle.hazard.proofs.Minimal.{minimal, minimal_own}

-- All the products of n inputs.
abbrev all_products : ℕ → List Cube
all_products zero = [] ∷ []
all_products (suc n) = let l = all_products n in map (λ c. 0 ∷ c) l ++ (map (λ c. 1 ∷ c) l ++ map (λ c. 2 ∷ c) l)

module _ (n : ℕ) (f ts : List ℕ) where
  abbrev dhf : Cube → Bool
  dhf p = is_product n p && dhf_implicant n (off f) (privileged n f ts) p

  -- A dhf-implicant around r that does not lie inside p.
  abbrev escapes : Cube → Cube → Cube → Bool
  escapes r p q = inside r q && (dhf q && not (inside q p))

  -- p is the greatest dhf-implicant around r.
  abbrev greatest : Cube → Cube → Bool
  greatest r p = inside r p && not (found (find (escapes r p) (all_products n)))

  -- Required cube r lies in product j of the network only.
  abbrev owned : Network → ℕ → Required → Bool
  owned net j r = inside r.cube (product_at net j) && not (covered (without j net) r.cube)

  -- Every product is a dhf-implicant; every required cube has its greatest one in the network; every product has a required cube of its own;
  -- and the products are in sequence.
  abbrev pub essential : Network → Bool
  essential net =
      not (found (find (λ p. not (dhf p)) net))
      && (not (found (find (λ r. not (found (find (greatest r.cube) net))) (required n f ts)))
      && (not (found (first (λ j. not (found (find (owned net j) (required n f ts)))) 0 (length net))) && ascending net))

-- Every product of n inputs is in the list.
in_all : {n : ℕ} {q : Cube} → Digits n q → Memᴰ q (all_products n)
in_all nil = Memᴰ.head refl
in_all (cons {n = n} {d = d} {ds = ds} h w) = go d h (in_all w)
  where
    l : List Cube
    l = all_products n

    go : (d : ℕ) → d ≤ 2 → Memᴰ ds (all_products n) → Memᴰ (d ∷ ds) (all_products (suc n))
    go zero k m = Memᴰ.append_left _ (Memᴰ.map (λ c. 0 ∷ c) m)
    go (suc zero) k m = Memᴰ.append_right (map (λ c. 0 ∷ c) (all_products n)) (Memᴰ.append_left _ (Memᴰ.map (λ c. 1 ∷ c) m))
    go (suc (suc zero)) k m = Memᴰ.append_right (map (λ c. 0 ∷ c) (all_products n)) (Memᴰ.append_right (map (λ c. 1 ∷ c) (all_products n)) (Memᴰ.map (λ c. 2 ∷ c) m))
    go (suc (suc (suc d))) k m = absurd (omega arith)

-- What a search that finds, or finds nothing, says.
found_e : {A : Type 0} (test : A → Bool) (l : List A) → T (found (find test l)) → (a : A) × Memᴰ a l × T (test a)
found_e {A} test l = go (find test l) (find-is test l)
  where
    go : (o : Option A) → Find test l o → T (found o) → (a : A) × Memᴰ a l × T (test a)
    go None v t = absurd t
    go (Some a) (hit m u _) t = (a, m, u)

lacking : {A : Type 0} (test : A → Bool) (l : List A) → ¬ T (found (find test l)) → (a : A) → Memᴰ a l → ¬ T (test a)
lacking test l t = (find_none test l).0 (not_found t)

module _ (n : ℕ) (f ts : List ℕ) (accepted : Accepted n f ts) (net : Network) (t : T (essential n f ts net)) where
  abbrev rs : List Required
  rs = required n f ts

  abbrev Prime : Cube → Type 0
  Prime p = DhfPrime n (off f) (privileged n f ts) p

  -- The parts of the test.
  parts : (¬ T (found (find (λ p. not (dhf n f ts p)) net)))
      × ((¬ T (found (find (λ (r : Required). not (found (find (greatest n f ts r.cube) net))) rs))) × ((¬ T (found (first (λ j. not (found (find (owned n f ts net j) rs))) 0 (length net)))) × T (ascending net)))
  parts = simp (T_and, T_no) at t

  dhf_at : (p : Cube) → Memᴰ p net → T (is_product n p) × T (dhf_implicant n (off f) (privileged n f ts) p)
  dhf_at p m = (T_and (is_product n p) (dhf_implicant n (off f) (privileged n f ts) p)).0 (sure (dhf n f ts p) (lacking (λ q. not (dhf n f ts q)) net parts.0 p m))

  -- The greatest dhf-implicant around a required cube.
  pub record Greatest (r : Required) (p : Cube) : Type 0 where
    pub member : Memᴰ p net
    pub around : T (inside r.cube p)
    pub above : (q : Cube) → T (is_product n q) → T (dhf_implicant n (off f) (privileged n f ts) q) → T (inside r.cube q) → T (inside q p)

  top : (r : Required) → Memᴰ r rs → (p : Cube) × Greatest r p
  top r m =
      let s = sure (found (find (greatest n f ts r.cube) net)) (lacking (λ (q : Required). not (found (find (greatest n f ts q.cube) net))) rs parts.1.0 r m) in
      let (p, u, g) = found_e (greatest n f ts r.cube) net s in
      let h = simp (T_and, T_no) at g in (
        p,
        record {
          member = u;
          around = h.0;
          above = λ q w d i. sure (inside q p) (λ v. lacking (escapes n f ts r.cube p) (all_products n) h.1 q (in_all (digits→ n q w)) ((T_and (inside r.cube q) (dhf n f ts q && not (inside q p))).1 (i, (T_and (dhf n f ts q) (not (inside q p))).1 ((T_and (is_product n q) (dhf_implicant n (off f) (privileged n f ts) q)).1 (w, d), v))));
        },
      )

  own : Irredundant rs net
  own j l =
      let s = sure (found (find (owned n f ts net j) rs)) (first-none (λ i. not (found (find (owned n f ts net i) rs))) 0 (length net) (not_found parts.1.1.0) j (omega arith) (omega arith)) in
      let (r, m, u) = found_e (owned n f ts net j) rs s in
      let h = simp (T_and, T_no) at u in
      record { cube = r; listed = m; mine = h.0; alone = h.1 }

  -- A product's own required cube has that product for its greatest.
  own_top : (j : ℕ) (l : j < length net) → Greatest (own j l).cube (product_at net j)
  own_top j l =
      let o = own j l in
      let (p, g) = top o.cube o.listed in
      elim (entry_cases net j g.member) [ inl e ↦ subst (Greatest o.cube) e g | inr u ↦ absurd (o.alone (covered_by o.cube.cube u g.around)) ]

  prime_at : (j : ℕ) → j < length net → Prime (product_at net j)
  prime_at j l =
      let d = dhf_at (product_at net j) (entry_at net j l) in
      let o = own j l in
      record {
        product = d.0;
        dhf = d.1;
        maximal = λ q w u i. (own_top j l).above q w u (→inside (inside_trans (inside→ o.cube.cube (product_at net j) o.mine) (inside→ (product_at net j) q i)));
      }

  pub essential_minimal : Minimal n f ts net
  essential_minimal =
      minimal n f ts accepted net (λ p m. let (j, l, e) = place_of m in subst Prime e (prime_at j l))
      (λ r m. let (p, g) = top r m in covered_by r.cube g.member g.around)
      own parts.1.1.1

  -- A dhf-prime around a required cube is its greatest dhf-implicant.
  prime_top : (r : Required) (p q : Cube) → Greatest r p → Prime q → T (inside r.cube q) → q ≡ p
  prime_top r p q g h i =
      let up = g.above q h.product h.dhf i in
      let d = dhf_at p g.member in
      inside_antisym (inside→ q p up) (inside→ p q (h.maximal p d.0 d.1 up))

  -- A minimal network has the same products, and in sequence there is but one of them.
  pub essential_only : (other : Network) → Minimal n f ts other → other ≡ net
  essential_only other h = ascending_once other net h.sequence parts.1.1.1 to from
    where
      mine : Irredundant rs other
      mine = minimal_own n f ts accepted other h

      to : (c : Cube) → Memᴰ c other → Memᴰ c net
      to c m =
          let (j, l, e) = place_of m in
          let o = mine j l in
          let (p, g) = top o.cube o.listed in
          Memᴰ.cast (prime_top o.cube p c g (h.primes c m) (rw e at o.mine)) g.member

      from : (c : Cube) → Memᴰ c net → Memᴰ c other
      from c m =
          let (j, l, e) = place_of m in
          let o = own j l in
          let (q, v, u) = covered_entry other o.cube.cube (h.cover.b o.cube o.listed) in
          Memᴰ.cast (sym (prime_top o.cube c q (rw e at (own_top j l)) (h.primes q v) u)) v
