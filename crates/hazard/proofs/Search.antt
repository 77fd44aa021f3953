-- What the searches find.
use mathlib.Core.Path.{◌≡◌, refl, sym, ap, ap₂, ◌∙◌, subst, subst⁻¹}
use mathlib.Core.Logic.{◌↔◌, inl, inr, ∥∥₁_elim}
use mathlib.Core.Bool.{Bool, true, false, ◌&&◌, ◌||◌}
use mathlib.Core.List.Memᴰ
use mathlib.Core.List.{List, [], ◌∷◌, ◌++◌, map, Memᴰ, Pairwise}
use Rattle.std.specs.Prelude.{Option, None, Some, option_map}
use Prim.Native.Nat.{ℕ, zero, suc, ◌+◌, ◌≤◌, ◌<◌}
use native.Mathlib.Nat.{add-zero}
use native.Mathlib.Omega.{arith}
use native.Mathlib.Bridge.{le_prop}
use native.Mathlib.Decide.{ℕ_discrete}
use lib.Dec.{T}
use Rattle.hazard.specs.Search.{found, first, those, first_place, find, first_of}
use Rattle.hazard.proofs.Test.{so, so_not}

-- Nothing and something are not equal.
pub none-some : {A : Type 0} {a : A} {C : Type 0} → ◌≡◌ {A = Option A} None (Some a) → C
none-some e = let z : ◌≡◌ {A = ℕ} 0 1 = cc in absurd (omega arith)

pub not_found : {A : Type 0} {o : Option A} → ¬ T (found o) → o ≡ None
not_found {A} {o = None} t = refl
not_found {A} {o = Some a} t = absurd (t tt)

-- What the lowest number that passes a test is.
pub data First (test : ℕ → Bool) (from size : ℕ) : Option ℕ → Type 0 where
  nowhere : ((x : ℕ) → from ≤ x → x < from + size → ¬ T (test x)) → First test from size None
  lowest : {x : ℕ} → T (test x) → from ≤ x → x < from + size → ((y : ℕ) → from ≤ y → y < x → ¬ T (test y)) → First test from size (Some x)

pub first-is : (test : ℕ → Bool) (from size : ℕ) → First test from size (first test from size)
first-is test from zero = nowhere (λ x l m t. omega arith)
first-is test from (suc size) = go (test from) refl (first test (suc from) size) (first-is test (suc from) size)
  where
    past : test from ≡ false → (y : ℕ) → from ≤ y → (suc from ≤ y → ¬ T (test y)) → ¬ T (test y)
    past e y l h t = elim (ℕ_discrete y from) [ yes q ↦ rw (q, e) at t | no q ↦ h (omega arith) t ]

    go : (b : Bool) → test from ≡ b → (r : Option ℕ) → First test (suc from) size r → First test from (suc size) (elim b [ true ↦ Some from | false ↦ r ])
    go true e r v = lowest {x = from} (rw e tt) (omega arith) (omega arith) (λ y l m. absurd (omega arith))
    go false e None (nowhere h) = nowhere (λ y l m. past e y l (λ i. h y i (omega arith)))
    go false e (Some x) (lowest t l m h) = lowest t (omega arith) (omega arith) (λ y i j. past e y i (λ k. h y k j))

pub first-none : (test : ℕ → Bool) (from size : ℕ) → first test from size ≡ None → (x : ℕ) → from ≤ x → x < from + size → ¬ T (test x)
first-none test from size e = go (first test from size) e (first-is test from size)
  where
    go : (o : Option ℕ) → o ≡ None → First test from size o → (x : ℕ) → from ≤ x → x < from + size → ¬ T (test x)
    go None e (nowhere h) = h
    go (Some x) e v = none-some (sym e)

pub none_first : (test : ℕ → Bool) (from size : ℕ) → ((x : ℕ) → from ≤ x → x < from + size → ¬ T (test x)) → first test from size ≡ None
none_first test from size h = go (first test from size) (first-is test from size)
  where
    go : (o : Option ℕ) → First test from size o → o ≡ None
    go None v = refl
    go (Some x) (lowest t l m k) = absurd (h x l m t)

pub first_some : (test : ℕ → Bool) (from size : ℕ) {x : ℕ} → first test from size ≡ Some x → (from ≤ x) × (x < from + size) × T (test x)
first_some test from size {x} e = go (subst (First test from size) e (first-is test from size))
  where
    go : First test from size (Some x) → (from ≤ x) × (x < from + size) × T (test x)
    go (lowest t l m h) = (l, m, t)

-- Some number below size passes.
pub any_e : (test : ℕ → Bool) (size : ℕ) → T (found (first test 0 size)) → (i : ℕ) × (i < size) × T (test i)
any_e test size = go (first test 0 size) (first-is test 0 size)
  where
    go : (o : Option ℕ) → First test 0 size o → T (found o) → (i : ℕ) × (i < size) × T (test i)
    go None v t = absurd t
    go (Some x) (lowest u l m k) t = (x, omega arith, u)

pub any_i : (test : ℕ → Bool) (size i : ℕ) → i < size → T (test i) → T (found (first test 0 size))
any_i test size i l t = go (first test 0 size) (first-is test 0 size)
  where
    go : (o : Option ℕ) → First test 0 size o → T (found o)
    go None (nowhere h) = h i (omega arith) (omega arith) t
    go (Some x) v = tt

-- Tests that agree find the same.
pub first-same : (p q : ℕ → Bool) (from size : ℕ) → ((x : ℕ) → from ≤ x → x < from + size → p x ≡ q x) → first p from size ≡ first q from size
first-same p q from zero h = refl
first-same p q from (suc size) h =
    ap₂ {C = Option ℕ} (λ (b : Bool) (o : Option ℕ). elim b [ true ↦ Some from | false ↦ o ]) (h from (omega arith) (omega arith)) (first-same p q (suc from) size (λ x a l. h x (omega arith) (omega arith)))

-- Something is found among one number more if it is found among those before, or there.
pub any_more : (test : ℕ → Bool) (from size : ℕ) → found (first test from (suc size)) ≡ (found (first test from size) || test (from + size))
any_more test from zero = rw (add-zero from) (go (test from))
  where
    go : (b : Bool) → found {A = ℕ} (elim b [ true ↦ Some from | false ↦ None ]) ≡ b
    go true = refl
    go false = refl
any_more test from (suc size) = let e : from + suc size ≡ suc from + size = omega arith in rw e (go (test from) (any_more test (suc from) size))
  where
    go : (b : Bool) → found (first test (suc from) (suc size)) ≡ (found (first test (suc from) size) || test (suc from + size))
        → found {A = ℕ} (elim b [ true ↦ Some from | false ↦ first test (suc from) (suc size) ]) ≡ (found {A = ℕ} (elim b [ true ↦ Some from | false ↦ first test (suc from) size ]) || test (suc from + size))
    go true h = refl
    go false h = h

-- The entries of an ascending list of numbers.
pub those_e : (test : ℕ → Bool) (from size : ℕ) {i : ℕ} → Memᴰ i (those test from size) → (from ≤ i) × (i < from + size) × T (test i)
those_e test from zero m = absurd (Memᴰ.not-nil m)
those_e test from (suc size) {i} m = go (λ u. let r = those_e test (suc from) size u in (omega (arith, r.0), omega (arith, r.1), r.2)) (test from) refl m
  where
    go : (Memᴰ i (those test (suc from) size) → (from ≤ i) × (i < from + suc size) × T (test i)) → (b : Bool) → test from ≡ b
        → Memᴰ i (elim b [ true ↦ from ∷ those test (suc from) size | false ↦ those test (suc from) size ]) → (from ≤ i) × (i < from + suc size) × T (test i)
    go below true b u = elim (Memᴰ.cases_cons u) [ inl e ↦ (omega arith, omega arith, subst⁻¹ (λ (k : ℕ). T (test k)) e (so b)) | inr v ↦ below v ]
    go below false b u = below u

pub those_i : (test : ℕ → Bool) (from size i : ℕ) → from ≤ i → i < from + size → T (test i) → Memᴰ i (those test from size)
those_i test from zero i l h t = absurd (omega arith)
those_i test from (suc size) i l h t = go (λ ne. those_i test (suc from) size i (omega arith) (omega arith) t) (test from) refl
  where
    go : (¬ (from ≡ i) → Memᴰ i (those test (suc from) size)) → (b : Bool) → test from ≡ b
        → Memᴰ i (elim b [ true ↦ from ∷ those test (suc from) size | false ↦ those test (suc from) size ])
    go below true b = elim (ℕ_discrete from i) [ yes e ↦ Memᴰ.head (sym e) | no ne ↦ Memᴰ.tail (below ne) ]
    go below false b = below (λ q. so_not b (subst⁻¹ (λ (k : ℕ). T (test k)) q t))

pub those_order : (test : ℕ → Bool) (from size : ℕ) → Pairwise (λ x y. x < y) (those test from size)
those_order test from zero = Pairwise.nil
those_order test from (suc size) = go (test from) (those_order test (suc from) size)
  where
    go : (b : Bool) → Pairwise (λ x y. x < y) (those test (suc from) size)
        → Pairwise (λ x y. x < y) (elim b [ true ↦ from ∷ those test (suc from) size | false ↦ those test (suc from) size ])
    go true next = Pairwise.cons (λ x m. ∥∥₁_elim m le_prop (λ d. (those_e test (suc from) size d).0)) next
    go false next = next

-- The entries before a place in a list fail the test.
abbrev pub Earlier : {A : Type 0} (test : A → Bool) {a : A} {l : List A} → Memᴰ a l → Type 0
Earlier test (Memᴰ.head e) = Unit {0}
Earlier test (Memᴰ.tail {x = x} m) = (¬ T (test x)) × Earlier test m

-- What the first entry that passes a test is.
pub data Find {A : Type 0} (test : A → Bool) (l : List A) : Option A → Type 0 where
  missing : ((a : A) → Memᴰ a l → ¬ T (test a)) → Find test l None
  hit : {a : A} (m : Memᴰ a l) → T (test a) → Earlier test m → Find test l (Some a)

pub find-is : {A : Type 0} (test : A → Bool) (l : List A) → Find test l (find test l)
find-is test [] = missing (λ a m t. Memᴰ.not-nil m)
find-is {A} test (b ∷ l) = go (test b) refl (find test l) (find-is test l)
  where
    go : (c : Bool) → test b ≡ c → (r : Option A) → Find test l r → Find test (b ∷ l) (elim c [ true ↦ Some b | false ↦ r ])
    go true e r v = hit (Memᴰ.head refl) (so e) tt
    go false e None (missing h) = missing (λ a m t. elim (Memᴰ.cases_cons m) [ inl q ↦ so_not e (subst (λ (x : A). T (test x)) q t) | inr n ↦ h a n t ])
    go false e (Some a) (hit m t h) = hit (Memᴰ.tail m) t (so_not e, h)

pub find_none : {A : Type 0} (test : A → Bool) (l : List A) → (find test l ≡ None) ↔ ((a : A) → Memᴰ a l → ¬ T (test a))
find_none {A} test l = go (find test l) (find-is test l)
  where
    go : (o : Option A) → Find test l o → (o ≡ None) ↔ ((a : A) → Memᴰ a l → ¬ T (test a))
    go None (missing h) = (λ e. h, λ k. refl)
    go (Some a) (hit m t h) = (λ e. none-some (sym e), λ k. absurd (k a m t))

-- The first of an ascending list of numbers that passes a second test is the lowest number that passes both.
pub find-those : {A : Type 0} (set : ℕ → Bool) (test : A → Bool) (g : ℕ → A) (from size : ℕ)
    → find test (map g (those set from size)) ≡ option_map g (first (λ x. set x && test (g x)) from size)
find-those set test g from zero = refl
find-those {A} set test g from (suc size) = go (set from) (find-those set test g (suc from) size)
  where
    rest : Option A
    rest = find test (map g (those set (suc from) size))

    later : Option ℕ
    later = first (λ x. set x && test (g x)) (suc from) size

    here' : (b : Bool) → rest ≡ option_map g later → ◌≡◌ {A = Option A} (elim b [ true ↦ Some (g from) | false ↦ rest ]) (option_map g (elim b [ true ↦ Some from | false ↦ later ]))
    here' true h = refl
    here' false h = h

    go : (b : Bool) → rest ≡ option_map g later
        → find test (map g (elim b [ true ↦ from ∷ those set (suc from) size | false ↦ those set (suc from) size ]))
        ≡ option_map g (elim (b && test (g from)) [ true ↦ Some from | false ↦ later ])
    go true h = here' (test (g from)) h
    go false h = h

-- What the lowest number at which a look finds something is.
pub data Place (look : ℕ → Option ℕ) (from size : ℕ) : Option (ℕ × ℕ) → Type 0 where
  empty : ((k : ℕ) → from ≤ k → k < from + size → look k ≡ None) → Place look from size None
  placed : {k x : ℕ} → from ≤ k → k < from + size → look k ≡ Some x → ((j : ℕ) → from ≤ j → j < k → look j ≡ None) → Place look from size (Some (k, x))

pub place_is : (look : ℕ → Option ℕ) (from size : ℕ) → Place look from size (first_place look from size)
place_is look from zero = empty (λ k l h. absurd (omega arith))
place_is look from (suc size) = go (look from) refl (first_place look (suc from) size) (place_is look (suc from) size)
  where
    past : look from ≡ None → (k : ℕ) → from ≤ k → (suc from ≤ k → look k ≡ None) → look k ≡ None
    past q k l h = elim (ℕ_discrete k from) [ yes c ↦ rw (c, q) | no c ↦ h (omega arith) ]

    go : (o : Option ℕ) → look from ≡ o → (r : Option (ℕ × ℕ)) → Place look (suc from) size r → Place look from (suc size) (elim o [ Some x ↦ Some (from, x) | None ↦ r ])
    go (Some x) q r v = placed {k = from} (omega arith) (omega arith) q (λ j l h. absurd (omega arith))
    go None q None (empty h) = empty (λ k l m. past q k l (λ i. h k i (omega arith)))
    go None q (Some p) (placed {k = k} l m e h) = placed {k = k} (omega arith) (omega arith) e (λ j i c. past q j i (λ u. h j u c))

-- It finds nothing exactly where no look does.
pub place_none : (look : ℕ → Option ℕ) (from size : ℕ) → (first_place look from size ≡ None) ↔ ((k : ℕ) → from ≤ k → k < from + size → look k ≡ None)
place_none look from size = go (first_place look from size) (place_is look from size)
  where
    go : (o : Option (ℕ × ℕ)) → Place look from size o → (o ≡ None) ↔ ((k : ℕ) → from ≤ k → k < from + size → look k ≡ None)
    go None (empty h) = (λ e. h, λ k. refl)
    go (Some p) (placed l m e h) = (λ q. none-some (sym q), λ k. none-some (sym (k _ l m) ∙ e))

pub place-some : (look : ℕ → Option ℕ) (from size : ℕ) {p : ℕ × ℕ} → first_place look from size ≡ Some p → (from ≤ p.0) × (p.0 < from + size) × (look p.0 ≡ Some p.1)
place-some look from size {p} e = go (subst (Place look from size) e (place_is look from size))
  where
    go : Place look from size (Some p) → (from ≤ p.0) × (p.0 < from + size) × (look p.0 ≡ Some p.1)
    go (placed l m h i) = (l, m, h)

-- Where a list of searches finds nothing, none of them does.
pub first_of-none : {A : Type 0} (l : List (Option A)) {o : Option A} → first_of l ≡ None → Memᴰ o l → o ≡ None
first_of-none [] e m = absurd (Memᴰ.not-nil m)
first_of-none (None ∷ l) e m = elim (Memᴰ.cases_cons m) [ inl h ↦ h | inr t ↦ first_of-none l e t ]
first_of-none (Some a ∷ l) e m = none-some (sym e)

-- The place of an entry that a list names is found by `search entries`.
pub here : {A : Type 0} {a : A} {l : List A} → Memᴰ a (a ∷ l)
here = Memᴰ.head refl

pub ruleset entries = (here, Memᴰ.tail)

pub first_of-one : {A : Type 0} (o : Option A) → first_of (o ∷ []) ≡ o
first_of-one None = refl
first_of-one (Some a) = refl

-- Of two lists of searches, the second counts where the first finds nothing.
pub first_of-left : {A : Type 0} (l m : List (Option A)) {a : A} → first_of l ≡ Some a → first_of (l ++ m) ≡ Some a
first_of-left [] m e = none-some e
first_of-left (None ∷ l) m e = first_of-left l m e
first_of-left (Some b ∷ l) m e = e

pub first_of-right : {A : Type 0} (l m : List (Option A)) → first_of l ≡ None → first_of (l ++ m) ≡ first_of m
first_of-right [] m e = refl
first_of-right (None ∷ l) m e = first_of-right l m e
first_of-right (Some b ∷ l) m e = none-some (sym e)

pub first_of-rest : {A : Type 0} (l m : List (Option A)) → first_of m ≡ None → first_of (l ++ m) ≡ first_of l
first_of-rest [] m e = e
first_of-rest (None ∷ l) m e = first_of-rest l m e
first_of-rest (Some b ∷ l) m e = refl

-- A list of searches that finds the same can stand in its place.
pub first_of_as : {A : Type 0} (l k m : List (Option A)) → first_of l ≡ first_of k → first_of (l ++ m) ≡ first_of (k ++ m)
first_of_as {A} l k m e = go (first_of k) refl
  where
    go : (o : Option A) → first_of k ≡ o → first_of (l ++ m) ≡ first_of (k ++ m)
    go None h = first_of-right l m (e ∙ h) ∙ sym (first_of-right k m h)
    go (Some a) h = first_of-left l m (e ∙ h) ∙ sym (first_of-left k m h)

-- Two lists of searches find nothing exactly if each finds nothing.
pub first_of-append : {A : Type 0} (l m : List (Option A)) → (first_of (l ++ m) ≡ None) ↔ ((first_of l ≡ None) × (first_of m ≡ None))
first_of-append [] m = (λ e. (refl, e), λ e. e.1)
first_of-append (None ∷ l) m = first_of-append l m
first_of-append (Some a ∷ l) m = (λ e. none-some (sym e), λ e. none-some (sym e.0))

-- Over a list of things to look at.
pub first_of-map : {A B : Type 0} (look : A → Option B) (l : List A) → (first_of (map look l) ≡ None) ↔ ((a : A) → Memᴰ a l → look a ≡ None)
first_of-map look [] = (λ e a m. absurd (Memᴰ.not-nil m), λ h. refl)
first_of-map {A} {B} look (b ∷ l) = go (look b) refl (first_of-map look l)
  where
    go : (o : Option B) → look b ≡ o → (first_of (map look l) ≡ None) ↔ ((a : A) → Memᴰ a l → look a ≡ None)
        → (◌≡◌ {A = Option B} (elim o [ Some c ↦ Some c | None ↦ first_of (map look l) ]) None) ↔ ((a : A) → Memᴰ a (b ∷ l) → look a ≡ None)
    go None q next = (λ e a m. elim (Memᴰ.cases_cons m) [ inl c ↦ rw (c, q) | inr n ↦ next.0 e a n ], λ h. next.1 (λ a m. h a (Memᴰ.tail m)))
    go (Some c) q next = (λ e. none-some (sym e), λ h. none-some (sym (h b (Memᴰ.head refl)) ∙ q))

-- What is found comes from an entry before which the look finds nothing.
pub record Split {A B : Type 0} (look : A → Option B) (l : List A) (b : B) : Type 0 where
  pub earlier : List A
  pub entry : A
  pub later : List A
  pub parts : l ≡ earlier ++ (entry ∷ later)
  pub before : (a : A) → Memᴰ a earlier → look a ≡ None
  pub here : look entry ≡ Some b

pub first_of_split : {A B : Type 0} (look : A → Option B) (l : List A) {b : B} → first_of (map look l) ≡ Some b → Split look l b
first_of_split look [] e = none-some e
first_of_split {A} {B} look (c ∷ l) {b} e = go (look c) refl e (first_of_split look l)
  where
    go : (o : Option B) → look c ≡ o → ◌≡◌ {A = Option B} (elim o [ Some d ↦ Some d | None ↦ first_of (map look l) ]) (Some b)
        → (first_of (map look l) ≡ Some b → Split look l b) → Split look (c ∷ l) b
    go None q e next =
        let s = next e in
        record {
          earlier = c ∷ s.earlier;
          entry = s.entry;
          later = s.later;
          parts = ap (λ (t : List A). c ∷ t) s.parts;
          before = λ a m. elim (Memᴰ.cases_cons m) [ inl h ↦ rw (h, q) | inr u ↦ s.before a u ];
          here = s.here;
        }
    go (Some d) q e next = record { earlier = []; entry = c; later = l; parts = refl; before = λ a m. absurd (Memᴰ.not-nil m); here = q ∙ e }

pub first_of-some : {A B : Type 0} (look : A → Option B) (l : List A) {b : B} → first_of (map look l) ≡ Some b → (a : A) × Memᴰ a l × (look a ≡ Some b)
first_of-some {A} look l e =
    let s = first_of_split look l e in
    (s.entry, subst⁻¹ (λ (t : List A). Memᴰ s.entry t) s.parts (Memᴰ.append_right s.earlier (Memᴰ.head refl)), s.here)
