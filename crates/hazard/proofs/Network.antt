-- Networks by the places of their products.
use mathlib.Core.Path.{◌≡◌, refl, sym, subst}
use mathlib.Core.Logic.{◌↔◌, ◌⊎◌, inl, inr}
use mathlib.Core.List.Memᴰ
use mathlib.Core.List.{[], ◌∷◌, Memᴰ}
use Prim.Native.Nat.{ℕ, zero, suc, ◌<◌}
use native.Mathlib.Nat.{not-suc-le-zero, le_of_suc-le-suc}
use native.Mathlib.Omega.{arith}
use lib.Dec.{T}
use lib.ListN.{length}
use Rattle.hazard.specs.Cube.{Cube, has, span, inside}
use Rattle.hazard.specs.Cover.{Network, product_at, WellFormed, gives, covered, without}
use Rattle.hazard.proofs.Test.{or_l, or_r, or_e}
use Rattle.hazard.proofs.Cube.{Digits, digits→}
use Rattle.hazard.proofs.Point.{ends_e, ends_i}

-- An entry has a place, and what has a place is an entry.
pub place_of : {p : Cube} {net : Network} → Memᴰ p net → (j : ℕ) × (j < length net) × (product_at net j ≡ p)
place_of (Memᴰ.head e) = (0, omega arith, sym e)
place_of (Memᴰ.tail m) = let r = place_of m in (suc r.0, omega (arith, r.1), r.2)

pub entry_at : (net : Network) (j : ℕ) → j < length net → Memᴰ (product_at net j) net
entry_at [] j l = absurd (not-suc-le-zero l)
entry_at (p ∷ net) zero l = Memᴰ.head refl
entry_at (p ∷ net) (suc j) l = Memᴰ.tail (entry_at net j (le_of_suc-le-suc l))

-- What holds at every place holds of every entry.
pub at_places : (P : Cube → Type 0) (net : Network) → ((j : ℕ) → j < length net → P (product_at net j)) → (p : Cube) → Memᴰ p net → P p
at_places P net h p m = let r = place_of m in subst P r.2 (h r.0 r.1)

-- What is left of a network is part of it, and an entry is product j or one of the others.
pub without_member : (j : ℕ) (net : Network) {p : Cube} → Memᴰ p (without j net) → Memᴰ p net
without_member j [] m = m
without_member zero (q ∷ net) m = Memᴰ.tail m
without_member (suc j) (q ∷ net) m = elim (Memᴰ.cases_cons m) [ inl e ↦ Memᴰ.head e | inr u ↦ Memᴰ.tail (without_member j net u) ]

pub entry_cases : (net : Network) (j : ℕ) {p : Cube} → Memᴰ p net → (p ≡ product_at net j) ⊎ Memᴰ p (without j net)
entry_cases [] j m = inr m
entry_cases (q ∷ net) zero m = Memᴰ.cases_cons m
entry_cases (q ∷ net) (suc j) m = elim (Memᴰ.cases_cons m) [ inl e ↦ inr (Memᴰ.head e) | inr u ↦ elim (entry_cases net j u) [ inl e ↦ inl e | inr v ↦ inr (Memᴰ.tail v) ] ]

-- Every entry has n digits.
abbrev pub Products : ℕ → Network → Type 0
Products n net = (j : ℕ) → j < length net → Digits n (product_at net j)

pub well_formed→ : {n : ℕ} {net : Network} → WellFormed n net → Products n net
well_formed→ {n} {net} w j l = digits→ n (product_at net j) (w (product_at net j) (entry_at net j l))

-- The network gives 1 at a point that a product contains.
pub gives_e : (net : Network) (x : ℕ) → T (gives net x) → (j : ℕ) × (j < length net) × T (has (product_at net j) x)
gives_e [] x t = absurd t
gives_e (p ∷ net) x t =
    elim (or_e (has p x) (gives net x) t) [ inl u ↦ (0, omega arith, u) | inr u ↦ let r = gives_e net x u in (suc r.0, omega (arith, r.1), r.2) ]

pub gives_i : (net : Network) (x j : ℕ) → j < length net → T (has (product_at net j) x) → T (gives net x)
gives_i [] x j l t = absurd (not-suc-le-zero l)
gives_i (p ∷ net) x zero l t = or_l (has p x) (gives net x) t
gives_i (p ∷ net) x (suc j) l t = or_r (has p x) (gives net x) (gives_i net x j (le_of_suc-le-suc l) t)

-- The network covers a cube that lies in a product.
pub covered_e : (net : Network) (c : Cube) → T (covered net c) → (j : ℕ) × (j < length net) × T (inside c (product_at net j))
covered_e [] c t = absurd t
covered_e (p ∷ net) c t =
    elim (or_e (inside c p) (covered net c) t) [ inl u ↦ (0, omega arith, u) | inr u ↦ let r = covered_e net c u in (suc r.0, omega (arith, r.1), r.2) ]

pub covered_i : (net : Network) (c : Cube) (j : ℕ) → j < length net → T (inside c (product_at net j)) → T (covered net c)
covered_i [] c j l t = absurd (not-suc-le-zero l)
covered_i (p ∷ net) c zero l t = or_l (inside c p) (covered net c) t
covered_i (p ∷ net) c (suc j) l t = or_r (inside c p) (covered net c) (covered_i net c j (le_of_suc-le-suc l) t)

-- One product contains both points.
abbrev pub Joint : Network → ℕ → ℕ → Type 0
Joint net p q = (j : ℕ) × (j < length net) × T (has (product_at net j) p) × T (has (product_at net j) q)

pub covered_joint : (n : ℕ) (net : Network) → Products n net → (p q : ℕ) → T (covered net (span n p q)) ↔ Joint net p q
covered_joint n net good p q = (
  λ t. let r = covered_e net (span n p q) t in let h = ends_e n p q (product_at net r.0) r.2 in (r.0, r.1, h.0, h.1),
  λ r. covered_i net (span n p q) r.0 r.1 (ends_i n p q (good r.0 r.1) r.2 r.3),
)

-- It covers a single point exactly if it gives 1 there.
pub covered-point : (n : ℕ) (net : Network) → Products n net → (x : ℕ) → T (covered net (span n x x)) ↔ T (gives net x)
covered-point n net good x =
    let c = covered_joint n net good x x in
    (λ t. let (j, l, i, k) = c.0 t in gives_i net x j l i, λ t. let (j, l, i) = gives_e net x t in c.1 (j, l, i, i))

-- By entries in place of places.
pub covered_entry : (net : Network) (c : Cube) → T (covered net c) → (p : Cube) × Memᴰ p net × T (inside c p)
covered_entry net c t = let (j, l, u) = covered_e net c t in (product_at net j, entry_at net j l, u)

pub covered_by : {net : Network} {p : Cube} (c : Cube) → Memᴰ p net → T (inside c p) → T (covered net c)
covered_by {net} c m t = let (j, l, e) = place_of m in covered_i net c j l (rw e t)
