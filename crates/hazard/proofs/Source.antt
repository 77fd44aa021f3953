-- Our sets, the rules of the kinds and the conditions of a cover are the source's.
use mathlib.Core.Path.{◌≡◌, refl, sym, ap, ◌∙◌, subst, subst⁻¹}
use mathlib.Core.Logic.{◌≢◌, ◌↔◌, inl, inr}
use mathlib.Core.Bool.{Bool, ◌&&◌}
use mathlib.Core.List.Memᴰ
use mathlib.Core.List.{List, Memᴰ}
use Rattle.std.specs.Prelude.{None}
use Prim.Native.Nat.{ℕ, ◌+◌, ◌-◌, ◌*◌, ◌^◌, ◌≤◌, ◌<◌}
use native.Mathlib.Omega.{arith}
use native.Mathlib.Decide.{ℕ_discrete, dec_lt}
use lib.Dec.{T, eqb, eqb→eq}
use lib.ListN.{length, get_or-eq_default}
use Rattle.hazard.specs.Search.{those}
use Rattle.hazard.specs.Cube.{Cube, bit, flip, has, span, meets, inside}
use Rattle.hazard.specs.Transition.{value, off, start, end, count, Kind, low, rise, fall, high, kind_of, kind, further, function_hazard, function_hazard_at}
use Rattle.hazard.specs.Sets.{Required, Privileged, maximal_label, labels, start_point, dynamic, kind_at, unvisited, required, privileged}
use Rattle.hazard.specs.Cover.{Network, WellFormed, HazardFreeCover}
use Rattle.hazard.specs.Refusal.{Accepted}
use Rattle.hazard.specs.Source.{StaticHazard, DynamicHazard, OneOn, MaximalOn, SourceLabel, SourceRequired, stays, falls, rises, RequiredCube, of_transition, of_point, SourcePrivileged, SourceOff, Trivial, SourceCover}
use Rattle.hazard.proofs.Test.{tests, known, T_and, T_no, eqb_of}
use Rattle.hazard.proofs.Search.{first-none, none_first, those_e, those_i}
use Rattle.hazard.proofs.Cube.{digits→, →has, meets→, span-digits, span_left, span_right}
use Rattle.hazard.proofs.Point.{In, in_e, in_i, span_swap, span_self, ends_e, ends_i, between, flip-same, flip-other, flip-lt}
use Rattle.hazard.proofs.Sets.{visited_e, visited_i, labels_at, required_at, point_at, transition_i, transition_e, point_i, point_e, required-transition, required-point, required_cases, privileged_i, privileged_e, privileged_wide}
use Rattle.hazard.proofs.Rules.{EndValues, end-values, RulesAt, table-length, rules_at}
use Rattle.hazard.proofs.Network.{covered_entry, covered_by}
use Rattle.hazard.proofs.Monotone.{Moves, move_in, move_rest, move_past, further_e, further_i, turns_e, Defined, Steady, rise_fall, kept_on}

-- A fall from s to e: no 0 has a 1 one move further.
module _ (n : ℕ) (f : List ℕ) (s e : ℕ) (defined : Defined n f s e) (steady : Steady n f s e 0) where
  -- Before a 1 there are only 1s: [s,x] is a subcube of [s,e] on which f is 1.
  one_on_lem : (x : ℕ) → x < 2 ^ n → T (has (span n s e) x) → value f x ≡ 1 → OneOn n f s e x
  one_on_lem x l t v = record { point = l; within = inner; ones = ones }
    where
      inner : T (inside (span n s x) (span n s e))
      inner = ends_i n s x (span-digits n s e) (→has (span_left n s e)) t

      -- If y comes before x, then x comes after y.
      after : (y : ℕ) → In n s x y → In n y e x
      after y h i b c = elim (ℕ_discrete (bit s i) (bit x i)) [
        | yes d ↦ sym (h i b d) ∙ d
        | no d ↦ let g : bit s i ≢ bit e i = λ g. d (in_e n s e x t i b g) in omega arith
      ]

      ones : (y : ℕ) → y < 2 ^ n → T (has (span n s x) y) → value f y ≡ 1
      ones y m u =
          let w = between n s x y (span-digits n s e) (→has (span_left n s e)) t (in_e n s x y u) in
          let d = defined y m w in
          let ne : value f y ≢ 0 = λ z. omega (arith, kept_on n f s e 0 (omega arith) defined steady y x m l w (in_i n y e x (after y (in_e n s x y u))) z) in
          omega arith

  -- A 1 with no 1 one move further is the end of a maximal subcube, and the other way round.
  label-maximal : (x : ℕ) → x < 2 ^ n → T (maximal_label n f s e x) → MaximalOn n f s e x
  label-maximal x l t =
      record {
        one_on = one_on_lem x l r.0 r.1.0;
        maximal = λ y o h. ends_i n s y (span-digits n s x) (→has (span_left n s x)) (in_i n s x y (λ i b c. elim (ℕ_discrete (bit s i) (bit y i)) [
          | yes d ↦ d
          | no d ↦ absurd (r.1.1 (wider y o (in_e n s y x (ends_e n s x (span n s y) h).1) i b c d))
        ]));
      }
    where
      r : T (has (span n s e) x) × ((value f x ≡ 1) × (¬ T (further n f s e x 1)))
      r = simp tests at t

      -- A subcube [s,y] that is 1 and frees one more input has a 1 one move further.
      wider : (y : ℕ) → OneOn n f s e y → In n s y x → (i : ℕ) → i < n → bit s i ≡ bit x i → bit s i ≢ bit y i → T (further n f s e x 1)
      wider y o h i b c d =
          let m : Moves n s e x i = record { input = b; differs = λ g. d (in_e n s e y (ends_e n s y (span n s e) o.within).1 i b g); early = sym c } in
          further_i n f s e x i 1 m (o.ones (flip x i) (flip-lt n x i l b)
          (in_i n s y (flip x i) (λ j q g. elim (ℕ_discrete i j) [ yes k ↦ absurd (d (rw k g)) | no k ↦ h j q g ∙ sym (flip-other x i j k) ])))

  maximal-label : (x : ℕ) → MaximalOn n f s e x → T (maximal_label n f s e x)
  maximal-label x h = simp tests (t, (h.one_on.ones x h.one_on.point (→has (span_right n s x)), λ u. stuck (further_e n f s e x 1 u)))
    where
      t : T (has (span n s e) x)
      t = (ends_e n s x (span n s e) h.one_on.within).1

      -- A 1 one move further would end a larger subcube that is 1.
      stuck : ¬ ((i : ℕ) × Moves n s e x i × (value f (flip x i) ≡ 1))
      stuck (i, m, v) =
          let z = flip x i in
          let o = one_on_lem z (flip-lt n x i h.one_on.point m.input) (in_i n s e z (move_in m (in_e n s e x t))) v in
          let k = h.maximal z o (ends_i n s x (span-digits n s z) (→has (span_left n s z)) (in_i n s z x (move_past m))) in
          let r = in_e n s x z (ends_e n s z (span n s x) k).1 i m.input (sym m.early) in
          omega (arith, flip-same x i, m.early)

  -- Lemma 2.8.
  pub fall_labels : (x : ℕ) → Memᴰ x (those (maximal_label n f s e) 0 (2 ^ n)) ↔ MaximalOn n f s e x
  fall_labels x = (
    λ m. let r = those_e (maximal_label n f s e) 0 (2 ^ n) m in label-maximal x (omega (arith, r.1)) r.2,
    λ h. those_i (maximal_label n f s e) 0 (2 ^ n) x (omega arith) (omega (arith, h.one_on.point)) (maximal-label x h),
  )

-- Lemmas 2.7 to 2.9: the labels are the source's, all of them and no others.
pub labels_source : (n : ℕ) (f : List ℕ) (a b : ℕ) (k : Kind) → RulesAt n f a b k → (x : ℕ) → Memᴰ x (labels n f k a b) ↔ SourceLabel n f k a b x
labels_source n f a b low h x = (λ m. Memᴰ.not-nil m, λ z. absurd z)
labels_source n f a b rise h x = fall_labels n f b a (λ y l t. h.defined y l (span_swap n b a y t)) ((rise_fall n f a b).0 h.kept) x
labels_source n f a b fall h x = fall_labels n f a b h.defined h.kept x
labels_source n f a b high h x = (λ m. Memᴰ.eq_of_singleton m, λ e. Memᴰ.head e)

-- So for each transition of an accepted problem.
pub labels_accepted : (n : ℕ) (f ts : List ℕ) → Accepted n f ts → (k : ℕ) → k < count ts → (x : ℕ)
    → Memᴰ x (labels n f (kind_at f ts k) (start ts k) (end ts k)) ↔ SourceLabel n f (kind_at f ts k) (start ts k) (end ts k) x
labels_accepted n f ts accepted k l = labels_source n f (start ts k) (end ts k) (kind_at f ts k) (rules_at n f ts accepted k l)

-- The end values say the kind.
values-kind : (k : Kind) (u v : ℕ) → EndValues k u v → k ≡ kind_of (2 * u + v)
values-kind low u v e = rw (e.0, e.1) refl
values-kind rise u v e = rw (e.0, e.1) refl
values-kind fall u v e = rw (e.0, e.1) refl
values-kind high u v e = rw (e.0, e.1) refl

module _ (n : ℕ) (f : List ℕ) (a b : ℕ) where
  ends_kind : (k : Kind) {u v : ℕ} → RulesAt n f a b k → value f a ≡ u → value f b ≡ v → k ≡ kind_of (2 * u + v)
  ends_kind k h p q = values-kind k (value f a) (value f b) h.ends ∙ rw (p, q) refl

  -- The required cubes of one transition, from our labels and from the source's words.
  required-words : (k : Kind) → RulesAt n f a b k → (x : ℕ) → SourceLabel n f k a b x → SourceRequired n f a b (span n (start_point k a b) x) x
  required-words low h x l = absurd l
  required-words rise h x l = rises h.ends.0 h.ends.1 l
  required-words fall h x l = falls h.ends.0 h.ends.1 l
  required-words high h x l = stays h.ends.0 h.ends.1 l

  words-required : (k : Kind) → RulesAt n f a b k → (c : Cube) (x : ℕ) → SourceRequired n f a b c x → SourceLabel n f k a b x × (c ≡ span n (start_point k a b) x)
  words-required k h c x (stays p q l) = let e = ends_kind k h p q in subst⁻¹ (λ (j : Kind). SourceLabel n f j a b x × (span n a x ≡ span n (start_point j a b) x)) e (l, refl)
  words-required k h c x (falls p q l) = let e = ends_kind k h p q in subst⁻¹ (λ (j : Kind). SourceLabel n f j a b x × (span n a x ≡ span n (start_point j a b) x)) e (l, refl)
  words-required k h c x (rises p q l) = let e = ends_kind k h p q in subst⁻¹ (λ (j : Kind). SourceLabel n f j a b x × (span n b x ≡ span n (start_point j a b) x)) e (l, refl)

  -- The privileged cube of one transition.
  privileged-words : (k : Kind) → RulesAt n f a b k → T (dynamic k) → SourcePrivileged n f a b (span n a b) (start_point k a b)
  privileged-words low h d = absurd d
  privileged-words rise h d = rises h.ends.0 h.ends.1
  privileged-words fall h d = falls h.ends.0 h.ends.1
  privileged-words high h d = absurd d

  words-privileged : (k : Kind) → RulesAt n f a b k → (c : Cube) (s : ℕ) → SourcePrivileged n f a b c s → T (dynamic k) × (c ≡ span n a b) × (s ≡ start_point k a b)
  words-privileged k h c s (falls p q) = let e = ends_kind k h p q in subst⁻¹ (λ (j : Kind). T (dynamic j) × (span n a b ≡ span n a b) × (a ≡ start_point j a b)) e (tt, refl, refl)
  words-privileged k h c s (rises p q) = let e = ends_kind k h p q in subst⁻¹ (λ (j : Kind). T (dynamic j) × (span n a b ≡ span n a b) × (b ≡ start_point j a b)) e (tt, refl, refl)

module _ (n : ℕ) (f ts : List ℕ) (accepted : Accepted n f ts) where
  -- The required cubes are the source's and the 1s that lie in no [A,B], all of them and no others.
  pub required_source : (r : Required) → Memᴰ r (required n f ts) ↔ RequiredCube n f ts r
  required_source r = (λ m. elim (required_cases n f ts m) [ inl u ↦ transition-words (transition_e n f ts u) | inr u ↦ point-words (point_e n f ts u) ], listed)
    where
      transition-words : {r : Required} → (k : ℕ) × (x : ℕ) × (k < count ts) × Memᴰ x (labels_at n f ts k) × (required_at n f ts k x ≡ r) → RequiredCube n f ts r
      transition-words (k, x, l, u, e) =
          subst (RequiredCube n f ts) e
          (of_transition l (required-words n f (start ts k) (end ts k) (kind_at f ts k) (rules_at n f ts accepted k l) x ((labels_accepted n f ts accepted k l x).0 u)))

      point-words : {r : Required} → (x : ℕ) × (x < 2 ^ n) × T (unvisited n f ts x) × (point_at n ts x ≡ r) → RequiredCube n f ts r
      point-words (x, l, t, e) =
          let u = simp tests at t in subst (RequiredCube n f ts) e (of_point (record { point = l; one = u.0; outside = λ k h v. u.1 (visited_i n ts x k h v) }))

      listed : {r : Required} → RequiredCube n f ts r → Memᴰ r (required n f ts)
      listed (of_transition {k = k} {x = x} {q = q} l s) =
          let (u, e) = words-required n f (start ts k) (end ts k) (kind_at f ts k) (rules_at n f ts accepted k l) q x s in
          Memᴰ.cast (ap (λ (c : Cube). record { transition = k; label = x; cube = c }) e) (required-transition n f ts (transition_i n f ts k x l ((labels_accepted n f ts accepted k l x).1 u)))
      listed (of_point {x = x} o) = required-point n f ts (point_i n f ts x o.point (simp tests (o.one, λ t. let (k, l, u) = visited_e n ts x t in o.outside k l u)))

  -- So are the privileged cubes,
  pub privileged_source : (v : Privileged)
      → Memᴰ v (privileged n f ts) ↔ ((v.transition < count ts) × SourcePrivileged n f (start ts v.transition) (end ts v.transition) v.cube v.start)
  privileged_source v = (
    λ m. let (k, l, d, e) = privileged_e n f ts m in
        subst (λ (q : Privileged). (q.transition < count ts) × SourcePrivileged n f (start ts q.transition) (end ts q.transition) q.cube q.start) e
        (l, privileged-words n f (start ts k) (end ts k) (kind_at f ts k) (rules_at n f ts accepted k l) d),
    λ h. let k = v.transition in
        let (l, s) = h in
        let (d, e, g) = words-privileged n f (start ts k) (end ts k) (kind_at f ts k) (rules_at n f ts accepted k l) v.cube v.start s in
        Memᴰ.cast (ap (λ (c : Cube). record { transition = k; cube = c; start = v.start }) e ∙ ap (λ (x : ℕ). record { transition = k; cube = span n (start ts k) (end ts k); start = x }) g) (privileged_i n f ts k l d),
  )

-- and the OFF-set, of a table of 2^n values.
pub off_source : (n : ℕ) (f : List ℕ) → length f ≡ 2 ^ n → (x : ℕ) → T (off f x) ↔ SourceOff n f x
off_source n f whole x = (
  λ t. let e = eqb→eq (value f x) 0 t in (elim (dec_lt x (2 ^ n)) [ yes l ↦ l | no l ↦ absurd (omega (arith, get_or-eq_default f 2 {n = x} (omega arith))) ], e),
  λ h. eqb_of h.1,
)

-- f is 1 on every required cube.
label-ones : (n : ℕ) (f : List ℕ) (a b : ℕ) (k : Kind) → RulesAt n f a b k → (x : ℕ) → SourceLabel n f k a b x → (y : ℕ) → y < 2 ^ n → T (has (span n (start_point k a b) x) y) → value f y ≡ 1
label-ones n f a b low h x s y l t = absurd s
label-ones n f a b rise h x s y l t = s.one_on.ones y l t
label-ones n f a b fall h x s y l t = s.one_on.ones y l t
label-ones n f a b high h x s y l t =
    let u = rw s at t in
    let d = h.defined y l u in
    let ne : value f y ≢ 0 = λ z. h.kept y l u (eqb_of z) in omega arith

pub required-ones : (n : ℕ) (f ts : List ℕ) → Accepted n f ts → (r : Required) → Memᴰ r (required n f ts) → (y : ℕ) → y < 2 ^ n → T (has r.cube y) → value f y ≡ 1
required-ones n f ts accepted r m y l t = elim (required_cases n f ts m) [
  | inl u ↦ let (k, x, h, v, e) = transition_e n f ts u in
      label-ones n f (start ts k) (end ts k) (kind_at f ts k) (rules_at n f ts accepted k h) x ((labels_accepted n f ts accepted k h x).0 v) y l (subst⁻¹ (λ (q : Required). T (has q.cube y)) e t)
  | inr u ↦ let (x, h, v, e) = point_e n f ts u in
      ap (value f) (sym (span_self n x y h l (subst⁻¹ (λ (q : Required). T (has q.cube y)) e t))) ∙ (simp tests at v).0
]

-- f has no function hazard for the transition from a to b.
abbrev FunctionHazardFree : ℕ → List ℕ → ℕ → ℕ → Type 0
FunctionHazardFree n f a b = (¬ StaticHazard n f a b) × (¬ DynamicHazard n f a b)

-- The rule of the kind k holds on [a,b].
abbrev Kept : ℕ → List ℕ → ℕ → ℕ → Kind → Type 0
Kept n f a b k = (x : ℕ) → x < 2 ^ n → T (has (span n a b) x) → ¬ T (function_hazard n f k a b x)

module _ (n : ℕ) (f : List ℕ) (a b v : ℕ) (small : v ≤ 1) (defined : Defined n f a b) (ends : value f b ≡ v) where
  -- Both ends have the value v: the other value is a static function hazard.
  static_free : value f a ≡ v → ((x : ℕ) → x < 2 ^ n → T (has (span n a b) x) → ¬ T (eqb (value f x) (1 - v))) ↔ FunctionHazardFree n f a b
  static_free starts = (
    λ k. (
      λ h. let d = defined h.b h.point h.between in k h.b h.point h.between (simp tests (omega (arith, h.differs))),
      λ h. h.differs (starts ∙ sym ends),
    ),
    λ h x l t u. h.0 (record { b = x; same = starts ∙ sym ends; point = l; between = t; differs = λ e. let o = simp tests at u in omega arith }),
  )

  -- The transition ends with the value v: a move from it to the other value is a dynamic function hazard.
  dynamic-free : value f a ≡ 1 - v → Steady n f a b v ↔ FunctionHazardFree n f a b
  dynamic-free starts = (
    λ k. (
      λ h. omega (arith, h.same),
      λ h. let r = kept_on n f a b v small defined k h.b h.c h.b-point h.c-point h.b-between h.c-between (h.b_ends ∙ ends) in omega (arith, h.c_starts),
    ),
    λ h x l t u. let (e, i, m, g) = turns_e n f a b v x u in h.1 (record {
      b = x;
      c = flip x i;
      differs = λ d. omega arith;
      b-point = l;
      c-point = flip-lt n x i l m.input;
      b-between = t;
      c-between = in_i n x b (flip x i) (move_rest m);
      b_ends = e ∙ sym ends;
      c_starts = starts ∙ sym g;
    }),
  )

-- The rule of each kind.
kept_free : (n : ℕ) (f : List ℕ) (a b : ℕ) → Defined n f a b → (k : Kind) → EndValues k (value f a) (value f b) → Kept n f a b k ↔ FunctionHazardFree n f a b
kept_free n f a b defined low e = static_free n f a b 0 (omega arith) defined e.1 e.0
kept_free n f a b defined rise e = dynamic-free n f a b 1 (omega arith) defined e.1 e.0
kept_free n f a b defined fall e = dynamic-free n f a b 0 (omega arith) defined e.1 e.0
kept_free n f a b defined high e = static_free n f a b 1 (omega arith) defined e.1 e.0

-- Definitions 2.4 and 2.5: the rule of the kind holds exactly where f has no function hazard.
pub rule_source : (n : ℕ) (f : List ℕ) (a b : ℕ) → a < 2 ^ n → b < 2 ^ n → Defined n f a b → (function_hazard_at n f a b ≡ None) ↔ ((¬ StaticHazard n f a b) × (¬ DynamicHazard n f a b))
rule_source n f a b l m defined = (
  λ e. r.0 (λ x h t u. first-none test 0 (2 ^ n) e x (omega arith) (omega arith) (simp T_and (t, u))),
  λ h. none_first test 0 (2 ^ n) (λ x p q t. let u = simp T_and at t in r.1 h x (omega arith) u.0 u.1),
)
  where
    test : ℕ → Bool
    test x = has (span n a b) x && function_hazard n f (kind f a b) a b x

    r : Kept n f a b (kind f a b) ↔ FunctionHazardFree n f a b
    r = kept_free n f a b defined (kind f a b) (end-values (value f a) (value f b) (defined a l (→has (span_left n a b))) (defined b m (→has (span_right n a b))))

-- Theorem 2.10: our conditions are the source's, though (c) there leaves out the trivial privileged cubes: given (a), that changes nothing.
pub cover_source : (n : ℕ) (f ts : List ℕ) (net : Network) → Accepted n f ts → WellFormed n net → SourceCover n f ts net ↔ HazardFreeCover n f ts net
cover_source n f ts net accepted formed = (
  λ h. record {
    a = λ p m x l o. h.a p m x ((zero x).0 o);
    b = λ r m. let (p, u, i) = h.b r ((required_source n f ts accepted r).0 m) in covered_by r.cube u i;
    c = λ p m v u t. let (l, s) = (privileged_source n f ts accepted v).0 u in
        let (i, j) = simp (T_and, T_no) at t in
        j (h.c p m v.transition l v.cube v.start s (λ trivial. meet h p m v u trivial i j) i);
  },
  λ h. record {
    a = λ p m x o. h.a p m x o.0 ((zero x).1 o);
    b = λ r s. covered_entry net r.cube (h.b r ((required_source n f ts accepted r).1 s));
    c = λ p m k l c s u t i. elim (known (has p s)) [
      | inl y ↦ y
      | inr y ↦ absurd (h.c p m (record { transition = k; cube = c; start = s }) ((privileged_source n f ts accepted _).1 (l, u)) (simp (T_and, T_no) (i, y)))
    ];
  },
)
  where
    zero : (x : ℕ) → T (off f x) ↔ SourceOff n f x
    zero = off_source n f (table-length n f ts accepted)

    -- The product and the trivial cube share a point that is not the start point, so a 0.
    meet : SourceCover n f ts net → (p : Cube) → Memᴰ p net → (v : Privileged) → Memᴰ v (privileged n f ts) → Trivial n f v.cube v.start → T (meets p v.cube) → ¬ T (has p v.start) → ⊥
    meet h p m v u trivial i j =
        let (x, l, y, z) = meets→ (digits→ n p (formed p m)) (privileged_wide n f ts v u) i in
        h.a p m x (l, trivial.rest x l (→has z) (λ e. j (→has (rw e at y)))) (→has y)
