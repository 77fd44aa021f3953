-- The invariant of the backward choice, and its turns.
use mathlib.Core.Path.{◌≡◌, refl, sym, ap, ◌∙◌, subst}
use mathlib.Core.Bool.{Bool, true, false, ◌||◌}
use mathlib.Core.Logic.{inl, inr}
use mathlib.Core.List.Memᴰ
use mathlib.Core.List.{List, [], ◌∷◌, ◌++◌, map, Memᴰ}
use Rattle.std.specs.Prelude.{Some}
use Rattle.std.proofs.lemmas.Option.{same_Some}
use Prim.Native.Nat.{ℕ, zero, suc, ◌-◌, ◌≤◌, ◌<◌}
use native.Mathlib.Nat.{not-suc-le-zero, le_of_suc-le-suc}
use native.Mathlib.Omega.{arith}
use native.Mathlib.Decide.{ℕ_discrete}
use lib.Dec.{T}
use lib.ListN.{length, get_or, take, drop, set, replicate, length-set, length-map}
use lib.Seq.{take-length, drop-length, drop-cons, drop-set-lt, get_or-set_same, get_or-set_other}
use Rattle.hazard.specs.Search.{found, first}
use Rattle.hazard.specs.Cube.{inside}
use Rattle.hazard.specs.Limits.{most_required}
use Rattle.hazard.specs.Sets.{Required}
use Rattle.hazard.specs.Cover.{covered}
use Rattle.hazard.proofs.Test.{tests, so, so_not, known}
use Rattle.hazard.proofs.Search.{any_e, any_i}
use Rattle.hazard.proofs.Choice.{Chosen, choice_start, choice_keep, choice_skip, choice_covers, choice_irredundant}
use Rattle.cube.specs.Entry.{required_in, cube_in, network_in}
use Rattle.cube.proofs.Networks.{product_in, network-suc}
use Rattle.flags.specs.Flag.{Flagged}
use Rattle.flags.proofs.Flags.{flagged_start}
use Rattle.choice.specs.First.{first_in}
use Rattle.choice.specs.Keep.{needed_in, Noted, Kept}
use Rattle.choice.proofs.Firsts.{map-take, first-covered, covered-first, some-covered}

-- An entry of a list has a place, and what has a place is an entry.
pub index_of : {w : ℕ} {ws : List ℕ} → Memᴰ w ws → (i : ℕ) × (i < length ws) × (get_or ws i 0 ≡ w)
index_of (Memᴰ.head e) = (0, omega arith, sym e)
index_of (Memᴰ.tail m) = let (i, l, e) = index_of m in (suc i, omega arith, e)

pub entry_of : (ws : List ℕ) (i : ℕ) → i < length ws → Memᴰ (get_or ws i 0) ws
entry_of [] i l = absurd (not-suc-le-zero l)
entry_of (w ∷ ws) zero l = Memᴰ.head refl
entry_of (w ∷ ws) (suc i) l = Memᴰ.tail (entry_of ws i (le_of_suc-le-suc l))

-- What holds of each required word holds of each required cube.
each-required : (n : ℕ) (required : List ℕ) (P : Required → Type 0) → ((i : ℕ) → i < length required → P (required_in n (get_or required i 0)))
    → (q : Required) → Memᴰ q (map (required_in n) required) → P q
each-required n required P h q m =
    let (w, u, e) = Memᴰ.of_map (required_in n) required m in
    let (i, l, g) = index_of u in
    subst P (ap (required_in n) g ∙ e) (h i l)

-- A word put before a part of a list.
drop-set : (ws : List ℕ) (k w : ℕ) → k < length ws → drop k (set ws k w) ≡ w ∷ drop (suc k) ws
drop-set ws k w h =
    drop-cons (set ws k w) k 0 (simp length-set h) ∙ rw (get_or-set_same ws k w 0 h, drop-set-lt (suc k) ws k w (omega arith))

pub record Keeping (n : ℕ) (required before now : List ℕ) (flags : List Bool) (kept j : ℕ) : Type 0 where
  pub order : j ≤ kept
  pub inside' : kept ≤ length now
  pub long : length now ≡ length before
  pub below : (k : ℕ) → k < j → get_or now k 0 ≡ get_or before k 0
  pub same : (k : ℕ) → k < length now → Memᴰ (get_or now k 0) before
  pub chosen : Chosen (map (required_in n) required) (network_in n (take j before)) (network_in n (drop kept now))
  -- A flag is set exactly if its required cube lies in a product kept so far.
  pub flagged : Flagged n required flags (network_in n (drop kept now))

module _ {n : ℕ} {required firsts before : List ℕ} (noted : Noted n required firsts before) where
  pub keeping_start : Keeping n required before before (replicate most_required false) (length before) (length before)
  keeping_start =
      record {
        order = omega arith;
        inside' = omega arith;
        long = refl;
        below = λ k h. refl;
        same = entry_of before;
        chosen = rw (take-length before, drop-length before) (choice_start (map (required_in n) required) (network_in n before)
            (each-required n required (λ (q : Required). T (covered (network_in n before) q.cube)) (λ i l. some-covered (network_in n before) (cube_in n (get_or required i 0)) (noted.each i l)))
            (omega (arith, noted.few, length-map before (cube_in n), length-map required (required_in n))));
        flagged = rw (drop-length before) (flagged_start n required most_required);
      }

  module _ {now : List ℕ} {flags : List Bool} {kept j : ℕ} (s : Keeping n required before now flags kept (suc j)) where
    abbrev rs : List Required
    rs = map (required_in n) required

    below_end : j < length before
    below_end = omega (arith, s.order, s.inside', s.long)

    ahead : network_in n (take (suc j) before) ≡ network_in n (take j before) ++ (cube_in n (get_or before j 0) ∷ [])
    ahead = network-suc n before j below_end

    chosen' : Chosen rs (network_in n (take j before) ++ (cube_in n (get_or before j 0) ∷ [])) (network_in n (drop kept now))
    chosen' = rw ahead at s.chosen

    -- A required cube whose first product is j.
    first_here : (i : ℕ) → i < length required → get_or firsts i 0 ≡ j → T (inside (cube_in n (get_or required i 0)) (cube_in n (get_or before j 0))) × (¬ T (covered (network_in n (take j before)) (cube_in n (get_or required i 0))))
    first_here i l e =
        let g : first_in (network_in n before) (cube_in n (get_or required i 0)) ≡ Some j = noted.each i l ∙ ap Some e in
        let (a, t, u) = first-covered (network_in n before) (cube_in n (get_or required i 0)) g in
        (rw (product_in n before j below_end) at t, λ v. u (rw (map-take (cube_in n) j before) at v))

    -- And the other way round.
    here_first : (i : ℕ) → i < length required → T (inside (cube_in n (get_or required i 0)) (cube_in n (get_or before j 0))) → ¬ T (covered (network_in n (take j before)) (cube_in n (get_or required i 0))) → get_or firsts i 0 ≡ j
    here_first i l t u =
        same_Some (get_or firsts i 0) j (sym (noted.each i l) ∙ covered-first (network_in n before) (cube_in n (get_or required i 0)) j
        (omega (arith, below_end, length-map before (cube_in n))) (rw (product_in n before j below_end) t) (λ v. u (rw (map-take (cube_in n) j before) v)))

    pub keeping_skip : {b : Bool} → b ≡ found (first (needed_in firsts flags j) 0 (length firsts)) → b ≡ false → Keeping n required before now flags kept j
    keeping_skip a f =
        record {
          order = omega (arith, s.order);
          inside' = s.inside';
          long = s.long;
          below = λ k h. s.below k (omega arith);
          same = s.same;
          chosen = choice_skip rs (network_in n (take j before)) (network_in n (drop kept now)) (cube_in n (get_or before j 0)) chosen'
              (each-required n required (λ (q : Required). T (inside q.cube (cube_in n (get_or before j 0))) → ¬ T (covered (network_in n (take j before)) q.cube) → T (covered (network_in n (drop kept now)) q.cube)) passed);
          flagged = s.flagged;
        }
      where
        passed : (i : ℕ) → i < length required → T (inside (cube_in n (get_or required i 0)) (cube_in n (get_or before j 0))) → ¬ T (covered (network_in n (take j before)) (cube_in n (get_or required i 0)))
            → T (covered (network_in n (drop kept now)) (cube_in n (get_or required i 0)))
        passed i l t u = elim (known (get_or flags i false)) [
          | inl v ↦ rw (s.flagged i l) at v
          | inr v ↦ absurd (so_not (sym a ∙ f) (any_i (needed_in firsts flags j) (length firsts) i (omega (arith, noted.whole)) (simp tests (here_first i l t u, v))))
        ]

    pub keeping_keep : {b : Bool} → b ≡ found (first (needed_in firsts flags j) 0 (length firsts)) → b ≡ true → {flags' : List Bool}
        → ((i : ℕ) → i < length required → get_or flags' i false ≡ (inside (cube_in n (get_or required i 0)) (cube_in n (get_or now j 0)) || get_or flags i false))
        → Keeping n required before (set now (kept - 1) (get_or now j 0)) flags' (kept - 1) j
    keeping_keep a t {flags'} h = go (any_e (needed_in firsts flags j) (length firsts) (so (sym a ∙ t)))
      where
        k : ℕ
        k = kept - 1

        place : (suc k ≡ kept) × (k < length now)
        place = (omega (arith, s.order), omega (arith, s.order, s.inside'))

        same_word : get_or now j 0 ≡ get_or before j 0
        same_word = s.below j (omega arith)

        rest : drop k (set now k (get_or now j 0)) ≡ get_or before j 0 ∷ drop kept now
        rest = drop-set now k (get_or now j 0) place.1 ∙ rw (same_word, place.0)

        go : (i : ℕ) × (i < length firsts) × T (needed_in firsts flags j i) → Keeping n required before (set now k (get_or now j 0)) flags' k j
        go (i, l, t) =
            let (a, b) = simp tests at t in
            let m : i < length required = omega (arith, noted.whole) in
            let (f, g) = first_here i m a in
            record {
              order = omega (arith, s.order);
              inside' = simp length-set (omega (arith, place.1));
              long = length-set now k (get_or now j 0) ∙ s.long;
              below = λ x y. get_or-set_other now k x (get_or now j 0) 0 (λ z. omega (arith, s.order)) ∙ s.below x (omega arith);
              same = λ x y. entries x (simp length-set at y);
              chosen = rw rest (choice_keep rs (network_in n (take j before)) (network_in n (drop kept now)) (cube_in n (get_or before j 0)) chosen'
                  (required_in n (get_or required i 0)) (Memᴰ.map (required_in n) (entry_of required i m)) f g (λ u. b (rw (s.flagged i m) u)));
              flagged = λ x y. h x y ∙ rw (s.flagged x y, rest, same_word);
            }
          where
            entries : (x : ℕ) → x < length now → Memᴰ (get_or (set now k (get_or now j 0)) x 0) before
            entries x y = elim (ℕ_discrete x k) [
              | yes z ↦ rw (z, get_or-set_same now k (get_or now j 0) 0 place.1) (s.same j (omega (arith, s.order, s.inside')))
              | no z ↦ rw (get_or-set_other now k x (get_or now j 0) 0 z) (s.same x y)
            ]

  -- A turn begins below j.
  pub keeping_turn : {now : List ℕ} {flags : List Bool} {kept j : ℕ} → Keeping n required before now flags kept j → 0 < j → Keeping n required before now flags kept (suc (j - 1))
  keeping_turn {now} {flags} {kept} {j} s h = let e : j ≡ suc (j - 1) = omega arith in subst (Keeping n required before now flags kept) e s

  pub keeping_end : {now : List ℕ} {flags : List Bool} {kept : ℕ} → Keeping n required before now flags kept 0 → Kept n required before now kept
  keeping_end {now} {flags} {kept} s =
      record {
        long = s.long;
        low = s.inside';
        same = s.same;
        covers = choice_covers (map (required_in n) required) (network_in n (drop kept now)) s.chosen;
        own = choice_irredundant (map (required_in n) required) (network_in n (drop kept now)) s.chosen;
      }
