-- Supercube-dhf ends at the least dhf-implicant around its cube, or shows that there is none; in at most n steps, whatever the fuel.
use mathlib.Core.Path.{◌≡◌, refl, subst}
use mathlib.Core.Bool.{Bool}
use mathlib.Core.List.{List}
use Rattle.std.specs.Prelude.{Option, None, Some}
use Prim.Native.Nat.{ℕ, zero, suc, ◌+◌, ◌^◌, ◌≤◌, ◌<◌}
use native.Mathlib.Omega.{arith}
use lib.Dec.{T}
use Rattle.hazard.specs.Search.{find}
use Rattle.hazard.specs.Cube.{Cube, join}
use Rattle.hazard.specs.Sets.{Privileged}
use Rattle.hazard.specs.Implicant.{illegal, lowest_zero}
use Rattle.hazard.specs.Growth.{Growth, Legal, Blocked, steps, grow_from, grow}
use Rattle.hazard.proofs.Cube.{Digits, Has, Inside, inside_refl, inside_trans, inside-has, join-digits, inside-join, join_least, fixed, join_less, fixed-le, none-fixed}
use Rattle.hazard.proofs.Implicant.{Closed, Dhf, Wide, Zero, clean, zero', zero_is, Meeting, closed, illegally, meeting_is}

module _ (n : ℕ) (off : ℕ → Bool) (vs : List Privileged) where
  -- Growth without fuel.
  pub data Grows : Cube → ℕ → Growth → Type 0 where
    stop : {c : Cube} {z s : ℕ} → lowest_zero n off c ≡ Some z → Grows c s (Blocked z s)
    done : {c : Cube} {s : ℕ} → lowest_zero n off c ≡ None → find (illegal c) vs ≡ None → Grows c s (Legal c s)
    step : {c : Cube} {s : ℕ} {v : Privileged} {g : Growth} → lowest_zero n off c ≡ None → find (illegal c) vs ≡ Some v → Grows (join c v.start) (suc s) g → Grows c s g

  -- It ends one way only.
  pub grows_once : {c : Cube} {s : ℕ} {g h : Growth} → Grows c s g → Grows c s h → g ≡ h
  grows_once (stop e) (stop d) = cc
  grows_once (stop e) (done d _) = cc
  grows_once (stop e) (step d _ _) = cc
  grows_once (done e _) (stop d) = cc
  grows_once (done e a) (done d b) = refl
  grows_once (done e a) (step d b _) = cc
  grows_once (step e _ _) (stop d) = cc
  grows_once (step e a _) (done d b) = cc
  grows_once (step {c = c} {s = s} {v = u} {g = g} e a r) (step {v = v} {g = h} d b t) = let p : v ≡ u = cc in grows_once r (rw p at t)

  -- Steps are only added, and a cube with no zero takes at least one before it is blocked.
  grows_more : {c : Cube} {s : ℕ} {g : Growth} → Grows c s g → s ≤ steps g
  grows_more (stop e) = omega arith
  grows_more (done e d) = omega arith
  grows_more (step e d r) = omega (arith, grows_more r)

  pub blocked_later : {c : Cube} {s z t : ℕ} → lowest_zero n off c ≡ None → Grows c s (Blocked z t) → s < t
  blocked_later q (stop e) = let y : ◌≡◌ {A = ℕ} 0 1 = cc in absurd (omega arith)
  blocked_later q (step e d r) = grows_more r

  -- A cube that growth ends legal at has no zero.
  pub legal_clean : {c d : Cube} {s t : ℕ} → Grows c s (Legal d t) → lowest_zero n off d ≡ None
  legal_clean (done e k) = e
  legal_clean (step e k r) = legal_clean r

  -- d lies inside every closed cube around c.
  abbrev pub Least : Cube → Cube → Type 0
  Least c d = (q : Cube) → Closed vs q → Inside c q → Inside d q

  -- Where growth from c ends: in the least dhf-implicant around c, or with a zero that every closed cube around c has.
  pub data Ends (c : Cube) : Growth → Type 0 where
    legal : {d : Cube} {s : ℕ} → Dhf n off vs d → Inside c d → Least c d → Ends c (Legal d s)
    blocked : {d : Cube} {z s : ℕ} → Inside c d → Least c d → z < 2 ^ n → Has d z → T (off z) → Ends c (Blocked z s)

  ends_back : {c d : Cube} {g : Growth} → Inside c d → Least c d → Ends d g → Ends c g
  ends_back i l (legal w j m) = legal w (inside_trans i j) (λ q a b. m q a (l q a b))
  ends_back i l (blocked j m b h e) = blocked (inside_trans i j) (λ q a b. m q a (l q a b)) b h e

  module _ (wide : Wide n vs) where
    -- The one place that sees the fuel.
    pub runs : (fuel : ℕ) {c : Cube} (s : ℕ) → Digits n c → fixed c ≤ fuel → Grows c s (grow_from n off vs fuel c s)
    runs zero {c} s w l = go (lowest_zero n off c) refl
      where
        all : (r : Option Privileged) → Meeting vs c r → r ≡ None
        all None m = refl
        all (Some v) (illegally m i) = absurd (i.lacks (none-fixed c l v.start))

        go : (r : Option ℕ) → lowest_zero n off c ≡ r → Grows c s (elim r [ Some z ↦ Blocked z s | None ↦ Legal c s ])
        go (Some z) e = stop e
        go None e = done e (all (find (illegal c) vs) (meeting_is n off vs wide w))
    runs (suc fuel) {c} s w l = go (lowest_zero n off c) refl (λ v m. runs fuel (suc s) (join-digits v.start w) m)
      where
        Next : Type 0
        Next = (v : Privileged) → fixed (join c v.start) ≤ fuel → Grows (join c v.start) (suc s) (grow_from n off vs fuel (join c v.start) (suc s))

        more : (r : Option Privileged) → lowest_zero n off c ≡ None → find (illegal c) vs ≡ r → Meeting vs c r → Next
            → Grows c s (elim r [ Some v ↦ grow_from n off vs fuel (join c v.start) (suc s) | None ↦ Legal c s ])
        more None e d m next = done e d
        more (Some v) e d (illegally m i) next = step e d (next v (omega (arith, join_less c v.start i.lacks)))

        go : (r : Option ℕ) → lowest_zero n off c ≡ r → Next
            → Grows c s (elim r [ Some z ↦ Blocked z s | None ↦ elim (find (illegal c) vs) [ Some v ↦ grow_from n off vs fuel (join c v.start) (suc s) | None ↦ Legal c s ] ])
        go (Some z) e next = stop e
        go None e next = more (find (illegal c) vs) e refl (meeting_is n off vs wide w) next

    least_step : {c : Cube} {v : Privileged} → Meeting vs c (Some v) → Least c (join c v.start)
    least_step {c} {v} (illegally m i) q l j = join_least j (l v m i.shared (inside-has j i.mine) i.its)

    pub ends : {c : Cube} {s : ℕ} {g : Growth} → Digits n c → Grows c s g → Ends c g
    ends w (stop {c = c} {z = z} e) = go (subst (Zero n off c) e (zero_is n off c))
      where
        go : {s : ℕ} → Zero n off c (Some z) → Ends c (Blocked z s)
        go (zero' b h o) = blocked (inside_refl c) (λ q a b. b) b h o
    ends w (done {c = c} e d) = go (subst (Zero n off c) e (zero_is n off c)) (subst (Meeting vs c) d (meeting_is n off vs wide w))
      where
        go : {s : ℕ} → Zero n off c None → Meeting vs c None → Ends c (Legal c s)
        go (clean h) (closed k) = legal (record { digits = w; clean = h; closed = k }) (inside_refl c) (λ q a b. b)
    ends w (step {c = c} {v = v} e d r) =
        ends_back (inside-join c v.start) (least_step (subst (Meeting vs c) d (meeting_is n off vs wide w))) (ends (join-digits v.start w) r)

    grows_steps : {c : Cube} {s : ℕ} {g : Growth} → Digits n c → Grows c s g → steps g ≤ s + fixed c
    grows_steps w (stop e) = omega arith
    grows_steps w (done e d) = omega arith
    grows_steps w (step {c = c} {s = s} {v = v} {g = g} e d r) =
        omega (arith, less (subst (Meeting vs c) d (meeting_is n off vs wide w)), grows_steps (join-digits v.start w) r)
      where
        less : Meeting vs c (Some v) → fixed (join c v.start) < fixed c
        less (illegally m i) = join_less c v.start i.lacks

    -- Any two fuels that are enough give the same.
    pub fuel : (k m s : ℕ) {c : Cube} → Digits n c → fixed c ≤ k → fixed c ≤ m → grow_from n off vs k c s ≡ grow_from n off vs m c s
    fuel k m s w i j = grows_once (runs k s w i) (runs m s w j)

    -- The growth of a cube.
    pub grow-runs : {c : Cube} → Digits n c → Grows c 0 (grow n off vs c)
    grow-runs w = runs n 0 w (fixed-le w)

    pub grow-steps : {c : Cube} → Digits n c → steps (grow n off vs c) ≤ n
    grow-steps w = omega (arith, grows_steps w (grow-runs w), fixed-le w)

    pub grow_ends : {c : Cube} → Digits n c → Ends c (grow n off vs c)
    grow_ends w = ends w (grow-runs w)

    -- A cube whose growth is blocked lies inside no dhf-implicant.
    pub blocked_none : {c : Cube} {z s : ℕ} → Ends c (Blocked z s) → (q : Cube) → Dhf n off vs q → ¬ Inside c q
    blocked_none (blocked i m b h o) q d j = d.clean _ b o (inside-has (m q d.closed j) h)
