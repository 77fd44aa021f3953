-- Demand 3 of document 01: what the choice gives, when there is a network at all, and what no product of a minimal network can do without.
use mathlib.Core.Path.{◌≡◌, refl, sym, ap, ◌∙◌, subst⁻¹}
use mathlib.Core.Logic.{◌↔◌, ◌≢◌, inl, inr, ∥∥₁_elim}
use mathlib.Core.HLevel.{⊥_prop}
use mathlib.Core.Bool.{not}
use mathlib.Core.List.Memᴰ
use mathlib.Core.List.Pairwise
use mathlib.Core.List.{List, [], ◌∷◌, Memᴰ, Mem, Nodup}
use Rattle.std.specs.Prelude.{Option, None, Some}
use Prim.Native.Nat.{ℕ, zero, suc, ◌≤◌}
use native.Mathlib.Omega.{arith}
use lib.Dec.{T}
use lib.ListN.{length}
use Rattle.hazard.specs.Search.{find}
use Rattle.hazard.specs.Cube.{Cube, inside}
use Rattle.hazard.specs.Transition.{off}
use Rattle.hazard.specs.Sets.{Required, required, privileged}
use Rattle.hazard.specs.Implicant.{DhfPrime}
use Rattle.hazard.specs.Cover.{Network, product_at, WellFormed, covered, without, Own, Irredundant, HazardFreeCover}
use Rattle.hazard.specs.HazardFree.{HazardFree, VisitedHazardFree}
use Rattle.hazard.specs.Refusal.{Accepted}
use Rattle.hazard.specs.Sequence.{ascending}
use Rattle.hazard.specs.Minimal.{block_check, blocking, Minimal}
use Rattle.hazard.proofs.Test.{or_l, or_r, or_e, T_no, sure}
use Rattle.hazard.proofs.Search.{first_of-map, Find, missing, hit, find-is}
use Rattle.hazard.proofs.Meaning.{inside_points}
use Rattle.hazard.proofs.Sets.{privileged_wide, required-digits}
use Rattle.hazard.proofs.Network.{without_member, covered_by}
use Rattle.hazard.proofs.Implicant.{prime-is}
use Rattle.hazard.proofs.Existence.{dhf-cover, cover_exists}
use Rattle.hazard.proofs.Single.{cover-transitions}
use Rattle.hazard.proofs.Covers.{hazard_free-visited}
use Rattle.hazard.proofs.Theorem.{visited→cover, cover_hazard_free}
use Rattle.hazard.proofs.Blocking.{block_none}

-- What the network covers and its rest does not lies in the product left out.
pub without-covered : (j : ℕ) (net : Network) (c : Cube) → T (covered net c) → ¬ T (covered (without j net) c) → T (inside c (product_at net j))
without-covered j [] c t u = absurd t
without-covered zero (q ∷ net) c t u = elim (or_e (inside c q) (covered net c) t) [ inl v ↦ v | inr v ↦ absurd (u v) ]
without-covered (suc j) (q ∷ net) c t u =
    elim (or_e (inside c q) (covered net c) t) [
      | inl v ↦ absurd (u (or_l (inside c q) (covered (without j net) c) v))
      | inr v ↦ without-covered j net c v (λ w. u (or_r (inside c q) (covered (without j net) c) w))
    ]

-- Products that each have a required cube of their own are all different.
pub irredundant_nodup : (rs : List Required) (net : Network) → Irredundant rs net → Nodup net
irredundant_nodup rs [] h = Pairwise.nil
irredundant_nodup rs (p ∷ net) h = Pairwise.cons (λ q m. other q m) (irredundant_nodup rs net (λ j l. tail j (h (suc j) (omega arith))))
  where
    tail : (j : ℕ) → Own rs (p ∷ net) (suc j) → Own rs net j
    tail j o = record { cube = o.cube; listed = o.listed; mine = o.mine; alone = λ t. o.alone (or_r (inside o.cube.cube p) (covered (without j net) o.cube.cube) t) }

    other : (q : Cube) → Mem q net → p ≢ q
    other q m e = ∥∥₁_elim m ⊥_prop (λ d. let o = h 0 (omega arith) in o.alone (covered_by o.cube.cube d (rw e at o.mine)))

-- What is left of a list without one entry.
take_out : {A : Type 0} {a : A} {l : List A} → Memᴰ a l → (rest : List A) × (length l ≡ suc (length rest)) × ((b : A) → Memᴰ b l → b ≢ a → Memᴰ b rest)
take_out (Memᴰ.head {xs = l} e) = (l, refl, λ b m ne. elim (Memᴰ.cases_cons m) [ inl d ↦ absurd (ne (d ∙ sym e)) | inr u ↦ u ])
take_out (Memᴰ.tail {x = x} m) =
    let (rest, e, f) = take_out m in
    (x ∷ rest, ap suc e, λ b u ne. elim (Memᴰ.cases_cons u) [ inl d ↦ Memᴰ.head d | inr v ↦ Memᴰ.tail (f b v ne) ])

-- Products that each have a required cube of their own are no more than the required cubes.
pub irredundant-few : (rs : List Required) (net : Network) → Irredundant rs net → length net ≤ length rs
irredundant-few rs [] h = omega arith
irredundant-few rs (p ∷ net) h =
    let o = h 0 (omega arith) in
    let (rest, e, other) = take_out o.listed in
    omega (arith, irredundant-few rest net (λ j l. tail o rest other j (h (suc j) (omega arith))))
  where
    tail : (o : Own rs (p ∷ net) 0) (rest : List Required) → ((r : Required) → Memᴰ r rs → r ≢ o.cube → Memᴰ r rest) → (j : ℕ) → Own rs (p ∷ net) (suc j) → Own rest net j
    tail o rest other j q =
        let c = q.cube.cube in
        record {
          cube = q.cube;
          listed = other q.cube q.listed (λ e. q.alone (or_l (inside c p) (covered (without j net) c) (subst⁻¹ (λ (r : Required). T (inside r.cube p)) e o.mine)));
          mine = q.mine;
          alone = λ t. q.alone (or_r (inside c p) (covered (without j net) c) t);
        }

module _ (n : ℕ) (f ts : List ℕ) where
  -- No required cube blocks exactly if there is a hazard-free cover.
  pub cover-iff : (blocking n f ts ≡ None) ↔ ((net : Network) × WellFormed n net × HazardFreeCover n f ts net)
  cover-iff =
      let b = first_of-map (block_check n (off f) (privileged n f ts)) (required n f ts) in
      let c = cover_exists n (off f) (required n f ts) (privileged n f ts) (privileged_wide n f ts) (required-digits n f ts) in
      (λ e. c.0 (λ r m. (block_none n (off f) (privileged n f ts) r).0 (b.0 e r m)), λ h. b.1 (λ r m. (block_none n (off f) (privileged n f ts) r).1 (c.1 h r m)))

  module _ (accepted : Accepted n f ts) where
    -- No required cube blocks exactly if there is a hazard-free network, of any size.
    pub exists_iff : (blocking n f ts ≡ None) ↔ ((net : Network) × WellFormed n net × HazardFree n f ts net)
    exists_iff = (
      λ e. let (net, w, c) = cover-iff.0 e in (net, w, (cover_hazard_free n f ts net accepted w).0 c),
      λ h. let (net, w, q) = h in cover-iff.1 (net, w, (cover_hazard_free n f ts net accepted w).1 q),
    )

    -- The 1s that no transition visits change nothing of that: a hazard-free network exists exactly if one exists with nothing asked there.
    pub exists_visited : ((net : Network) × WellFormed n net × VisitedHazardFree n f ts net) ↔ ((net : Network) × WellFormed n net × HazardFree n f ts net)
    exists_visited = (
      λ h. let (net, w, v) = h in
          let (all, good, c) = (cover-transitions n f ts).0 (net, w, visited→cover n f ts net accepted w v) in
          (all, good, (cover_hazard_free n f ts all accepted good).0 c),
      λ h. (h.0, h.1, hazard_free-visited h.2),
    )

    -- Dhf-primes in sequence that cover every required cube, each with one of its own, meet the whole of demand 3.
    pub minimal : (net : Network) → ((p : Cube) → Memᴰ p net → DhfPrime n (off f) (privileged n f ts) p) → ((r : Required) → Memᴰ r (required n f ts) → T (covered net r.cube))
        → Irredundant (required n f ts) net → T (ascending net) → Minimal n f ts net
    minimal net primes covers own sequence =
        record {
          primes = primes;
          cover = cover;
          hazard_free = (cover_hazard_free n f ts net accepted good).0 cover;
          irredundant = λ j l q. let o = own j l in
              o.alone (((cover_hazard_free n f ts (without j net) accepted (λ p m. good p (without_member j net m))).1 q).b o.cube o.listed);
          few = irredundant-few (required n f ts) net own;
          maximal = λ p m q w d s.
              let (x, l, i, j) = s.more in
              let u = (primes p m).maximal q w d ((inside_points n p q (good p m) w).1 s.within) in j ((inside_points n q p w (good p m)).0 u x l i);
          sequence = sequence;
        }
      where
        good : WellFormed n net
        good p m = (primes p m).product

        cover : HazardFreeCover n f ts net
        cover = dhf-cover n (off f) (required n f ts) (privileged n f ts) (privileged_wide n f ts) net
            (λ p m. ((prime-is n (off f) (privileged n f ts) (privileged_wide n f ts) p).0 (primes p m)).dhf) covers

    -- And a product that cannot be dropped has a required cube of its own.
    pub minimal_own : (net : Network) → Minimal n f ts net → Irredundant (required n f ts) net
    minimal_own net h j l = go (find (λ r. not (covered (without j net) r.cube)) (required n f ts)) (find-is (λ r. not (covered (without j net) r.cube)) (required n f ts))
      where
        rest : (p : Cube) → Memᴰ p (without j net) → Memᴰ p net
        rest p m = without_member j net m

        go : (o : Option Required) → Find (λ r. not (covered (without j net) r.cube)) (required n f ts) o → Own (required n f ts) net j
        go None (missing k) =
            absurd (h.irredundant j l ((cover_hazard_free n f ts (without j net) accepted (λ p m. (h.primes p (rest p m)).product)).0 (record {
              a = λ p m. h.cover.a p (rest p m);
              b = λ r m. sure (covered (without j net) r.cube) (k r m);
              c = λ p m. h.cover.c p (rest p m);
            })))
        go (Some r) (hit m t _) =
            let u = simp T_no at t in
            record { cube = r; listed = m; mine = without-covered j net r.cube (h.cover.b r m) u; alone = u }
