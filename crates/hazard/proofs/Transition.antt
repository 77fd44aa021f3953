-- Nowick and Dill's theorem for one transition, from a to b.
use mathlib.Core.Path.{◌≡◌, refl, sym, ◌∙◌, subst⁻¹}
use mathlib.Core.Logic.{◌≢◌, inl, inr}
use mathlib.Core.Bool.{true, false}
use mathlib.Core.List.Memᴰ
use mathlib.Core.List.{List, [], ◌∷◌, Memᴰ}
use Prim.Native.Nat.{ℕ, ◌^◌, ◌<◌}
use native.Mathlib.Omega.{arith}
use lib.Dec.{T}
use lib.ListN.{length}
use Rattle.hazard.specs.Search.{those}
use Rattle.hazard.specs.Cube.{has, span}
use Rattle.hazard.specs.Transition.{value, Kind, low, rise, fall, high}
use Rattle.hazard.specs.Sets.{maximal_label, labels, start_point, dynamic}
use Rattle.hazard.specs.Cover.{Network, product_at, gives, covered}
use Rattle.hazard.specs.Run.{Wire, Allowed}
use Rattle.hazard.specs.Pulse.{pulse}
use Rattle.hazard.proofs.Test.{is, isnt, so, so_not, known, eqb_of}
use Rattle.hazard.proofs.Search.{those_e}
use Rattle.hazard.proofs.Cube.{→has, span_left, span_right}
use Rattle.hazard.proofs.Point.{has_e, in_e, in_i, in_swap}
use Rattle.hazard.proofs.Rules.{RulesAt}
use Rattle.hazard.proofs.Network.{Products, gives_e, gives_i, Joint, covered_joint}
use Rattle.hazard.proofs.Trace.{out, constant, turns}
use Rattle.hazard.proofs.View.{On, out_e, out_i, sees_either, was_on, stays_on, view}
use Rattle.hazard.proofs.Moment.{Runs, out_start, out_end}
use Rattle.hazard.proofs.Pulse.{pulse_run, high-pulse, fall_pulse, rise_pulse}
use Rattle.hazard.proofs.Label.{label-one}

-- Every product that has a point of [A,B] contains s.
abbrev pub Anchored : ℕ → ℕ → ℕ → Network → ℕ → Type 0
Anchored n a b net s = (k : ℕ) → k < length net → (x : ℕ) → T (has (product_at net k) x) → T (has (span n a b) x) → T (has (product_at net k) s)

-- One product that contains both ends.
module _ (a b : ℕ) (net : Network) where
  -- It keeps the output at 1.
  all_on : Joint net a b → (m : List Wire) → out a b net m ≡ true
  all_on (k, l, p, q) m =
      is (out_i a b m net k l (λ i ne. elim (sees_either a b m k i) [ inl e ↦ has_e (product_at net k) a p i ne ∙ sym e | inr e ↦ has_e (product_at net k) b q i ne ∙ sym e ]))

module _ (n a b : ℕ) (net : Network) (good : Products n net) where
  -- A product that is on has a point of [A,B].
  on-point : (m : List Wire) (k : ℕ) → k < length net → On a b net m k → (x : ℕ) × (x < 2 ^ n) × T (has (span n a b) x) × T (has (product_at net k) x)
  on-point m k l h = let r = view n a b m k (good k l) in (r.0, r.1, r.2, r.3.1 h)

  -- The output is 0 throughout, if the network gives 0 on [A,B].
  all_off : ((x : ℕ) → x < 2 ^ n → T (has (span n a b) x) → gives net x ≡ false) → (m : List Wire) → out a b net m ≡ false
  all_off h m =
      isnt (out a b net m) (λ t.
      let r = out_e a b m net t in
      let y = on-point m r.0 r.1 r.2 in
      so_not (h y.0 y.1 y.2) (gives_i net y.0 r.0 r.1 y.3))

  -- The output stays 0, if every product that is on contains the start; and it stays 1, if every product that is on contains the end.
  stays-off : Anchored n a b net a → (m : List Wire) (w : Wire) → out a b net m ≡ false → out a b net (w ∷ m) ≡ false
  stays-off c m w e =
      isnt (out a b net (w ∷ m)) (λ t.
      let r = out_e a b (w ∷ m) net t in
      let y = on-point (w ∷ m) r.0 r.1 r.2 in
      so_not e (out_i a b m net r.0 r.1 (was_on a b m w r.0 (product_at net r.0) (c r.0 r.1 y.0 y.3 y.2) r.2)))

  remains_on : Anchored n a b net b → (m : List Wire) (w : Wire) → out a b net m ≡ true → out a b net (w ∷ m) ≡ true
  remains_on c m w e =
      let r = out_e a b m net (so e) in
      let y = on-point m r.0 r.1 r.2 in
      is (out_i a b (w ∷ m) net r.0 r.1 (stays_on a b m w r.0 (product_at net r.0) (c r.0 r.1 y.0 y.3 y.2) r.2))

  -- A network whose output stays 1 has a product that contains both ends: else a run shows a 0.
  high_joint : Runs a b net (Allowed high) → Joint net a b
  high_joint runs =
      let c = covered_joint n net good a b in
      elim (known (covered net (span n a b))) [ inl t ↦ c.0 t | inr t ↦ absurd (high-pulse 0 a b net (λ j. t (c.1 j)) (runs (pulse high 0 a b net) (pulse_run high 0 a b net))) ]

  -- A product that has a point of [A,B] contains the end at 1, if the network gives 0 at the other: else a run shows a value that comes back.
  module _ (j : ℕ) (l : j < length net) (x : ℕ) (at_x : T (has (product_at net j) x)) (between_ends : T (has (span n a b) x)) where
    fall_start : Runs a b net (Allowed fall) → gives net b ≡ false → T (has (product_at net j) a)
    fall_start runs zero' = elim (known (has (product_at net j) a)) [
      | inl t ↦ t
      | inr t ↦ absurd (fall_pulse n a b net good j l x at_x between_ends t zero' (runs (pulse fall j a b net) (pulse_run fall j a b net)))
    ]

    rise_start : Runs a b net (Allowed rise) → gives net a ≡ false → T (has (product_at net j) b)
    rise_start runs zero' = elim (known (has (product_at net j) b)) [
      | inl t ↦ t
      | inr t ↦ absurd (rise_pulse n a b net good j l x at_x between_ends t zero' (runs (pulse rise j a b net) (pulse_run rise j a b net)))
    ]

module _ (n : ℕ) (f : List ℕ) (net : Network) (a b : ℕ) where
  -- Conditions (b) and (c) for a transition of kind k.
  pub record CoverAt (k : Kind) : Type 0 where
    pub cubes : (x : ℕ) → Memᴰ x (labels n f k a b) → Joint net (start_point k a b) x
    pub legal : T (dynamic k) → Anchored n a b net (start_point k a b)

  -- The network gives 1 at the 1s of [A,B].
  abbrev Ones : Type 0
  Ones = (x : ℕ) → x < 2 ^ n → T (has (span n a b) x) → value f x ≡ 1 → gives net x ≡ true

  -- A single product contains S and the label, for each label, if the network gives 1 at the 1s and every product that has a point of [A,B] contains S.
  labelled : (s e : ℕ) → ((x : ℕ) → T (has (span n s e) x) → T (has (span n a b) x)) → Ones → Anchored n a b net s
      → (x : ℕ) → Memᴰ x (those (maximal_label n f s e) 0 (2 ^ n)) → Joint net s x
  labelled s e to one anchored x m =
      let t = those_e (maximal_label n f s e) 0 (2 ^ n) m in
      let u = label-one n f s e x t.2 in
      let g = gives_e net x (so (one x (omega (arith, t.1)) (to x u.0) u.1)) in
      (g.0, g.1, anchored g.0 g.1 x g.2 (to x u.0), g.2)

  module _ (good : Products n net) (zeros : (x : ℕ) → x < 2 ^ n → value f x ≡ 0 → gives net x ≡ false) (ones : Ones) where
    pub runs_at : (k : Kind) → RulesAt n f a b k → CoverAt k → Runs a b net (Allowed k)
    runs_at low h c r e =
        constant a b net false (all_off n a b net good (λ x l t. let ne : value f x ≢ 1 = λ v. h.kept x l t (eqb_of v) in zeros x l (omega (arith, h.defined x l t)))) [] r
    runs_at rise h c r e =
        turns a b net false (remains_on n a b net good (c.legal tt)) [] r (out_start a b net ∙ zeros a h.start-lt h.ends.0)
        (out_end a b net r e ∙ ones b h.end_lt (→has (span_right n a b)) h.ends.1)
    runs_at fall h c r e =
        turns a b net true (stays-off n a b net good (c.legal tt)) [] r (out_start a b net ∙ ones a h.start-lt (→has (span_left n a b)) h.ends.0)
        (out_end a b net r e ∙ zeros b h.end_lt h.ends.1)
    runs_at high h c r e = constant a b net true (all_on a b net (c.cubes b (Memᴰ.head refl))) [] r

    pub cover_at : (k : Kind) → RulesAt n f a b k → Runs a b net (Allowed k) → CoverAt k
    cover_at low h q = record { cubes = λ x m. absurd (Memᴰ.not-nil m); legal = λ t. absurd t }
    cover_at rise h q =
        let c : Anchored n a b net b = λ j l x t u. rise_start n a b net good j l x t u q (zeros a h.start-lt h.ends.0) in
        record { cubes = labelled b a (λ x t. in_i n a b x (in_swap n b a x (in_e n b a x t))) ones c; legal = λ t. c }
    cover_at fall h q =
        let c : Anchored n a b net a = λ j l x t u. fall_start n a b net good j l x t u q (zeros b h.end_lt h.ends.1) in
        record { cubes = labelled a b (λ x t. t) ones c; legal = λ t. c }
    cover_at high h q =
        let j = high_joint n a b net good q in
        record {
          cubes = λ x m. (j.0, j.1, j.2, subst⁻¹ (λ (y : ℕ). T (has (product_at net j.0) y)) (Memᴰ.eq_of_singleton m) j.3);
          legal = λ t. absurd t;
        }
