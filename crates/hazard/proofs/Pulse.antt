-- The pulse is a run, has at most n wires a product, and its output list is not allowed.
use mathlib.Core.Path.{◌≡◌, refl, sym, ap, ◌∙◌, subst}
use mathlib.Core.Logic.{◌≢◌, ◌⊎◌, inl, inr}
use mathlib.Core.Bool.{Bool, true, false, not, cond, ◌&&◌, true≢false}
use mathlib.Core.List.{List, [], ◌∷◌, ◌++◌}
use Prim.Native.Nat.{ℕ, suc, ◌+◌, ◌*◌, ◌≤◌, ◌<◌}
use native.Mathlib.Nat.{mul-suc}
use native.Mathlib.Omega.{arith}
use native.Mathlib.Decide.{ℕ_discrete}
use lib.Dec.{T, eqb, ltb, eqb→eq, ltb→lt, lt→ltb}
use lib.ListN.{length, length-append}
use Rattle.hazard.specs.Cube.{Cube, bit, has, span}
use Rattle.hazard.specs.Transition.{Kind, low, rise, fall, high}
use Rattle.hazard.specs.Cover.{Network, product_at, gives}
use Rattle.hazard.specs.Run.{Wire, wire, same_wire, seen, times, wires_of, wires, Run, sees, outputs, Allowed}
use Rattle.hazard.proofs.Test.{tests, is, isnt, so, so_not, known, or_l, eqb_of, eqb_self, cond_yes, cond_no}
use Rattle.hazard.proofs.Point.{dig, bit-lt, digits-length, dig_short, has_e, has_i, in_e}
use Rattle.hazard.proofs.Network.{Products, gives_i, Joint}
use Rattle.hazard.proofs.Wire.{seen-times, times-append, times_selected, times-left, after, times_after, Literal, run_wires, run_length}
use Rattle.hazard.proofs.Trace.{out, constant_at, turns_at}
use Rattle.hazard.proofs.View.{On, out_e, out_i}
use Rattle.hazard.proofs.Moment.{Moved, moved-sees}
use Rattle.hazard.specs.Pulse.{passing, phase, phase_of, in_phase, pulse}

-- Three phases.
module _ (p : Wire → ℕ) (few : (w : Wire) → p w < 3) where
  abbrev part : ℕ → List Wire → List Wire
  part q l = passing (λ w. eqb (p w) q) l

  times_part : (q : ℕ) (l : List Wire) (w : Wire) → p w ≡ q → times (part q l) w ≡ times l w
  times_part q l w e = times_selected (λ v. eqb (p v) q) l w (eqb_of e)

  times-apart : (q : ℕ) (l : List Wire) (w : Wire) → p w ≢ q → times (part q l) w ≡ 0
  times-apart q l w ne = times-left (λ v. eqb (p v) q) l w (λ t. ne (eqb→eq (p w) q t))

  -- Each wire stands in one of the three, as often as before.
  times_parts : (l : List Wire) (w : Wire) → times (part 0 l ++ (part 1 l ++ part 2 l)) w ≡ times l w
  times_parts l w = times-append (part 0 l) (part 1 l ++ part 2 l) w ∙ ap (λ (x : ℕ). times (part 0 l) w + x) (times-append (part 1 l) (part 2 l) w) ∙ go (ℕ_discrete (p w) 0) (ℕ_discrete (p w) 1)
    where
      go : Dec (p w ≡ 0) → Dec (p w ≡ 1) → times (part 0 l) w + (times (part 1 l) w + times (part 2 l) w) ≡ times l w
      go (yes e) d = omega (arith, times_part 0 l w e, times-apart 1 l w (omega arith), times-apart 2 l w (omega arith))
      go (no u) (yes e) = omega (arith, times-apart 0 l w u, times_part 1 l w e, times-apart 2 l w (omega arith))
      go (no u) (no v) = omega (arith, times-apart 0 l w u, times-apart 1 l w v, times_part 2 l w (omega (arith, few w)))

phase-few : (k : Kind) (named late : Bool) → phase k named late < 3
phase-few low named late = omega arith
phase-few rise true true = omega arith
phase-few rise true false = omega arith
phase-few rise false late = omega arith
phase-few fall true true = omega arith
phase-few fall true false = omega arith
phase-few fall false late = omega arith
phase-few high named true = omega arith
phase-few high named false = omega arith

module _ (k : Kind) (j a b : ℕ) (net : Network) where
  abbrev place : Wire → ℕ
  place w = phase_of k j b (product_at net w.product) w

  few : (w : Wire) → place w < 3
  few w = phase-few k (eqb w.product j) (eqb (dig (product_at net w.product) w.input) (bit b w.input))

  -- Every moving wire once.
  pub pulse_run : Run a b net (pulse k j a b net)
  pulse_run = times_parts place few (wires a b 0 net)

  pub pulse-length : length (pulse k j a b net) ≡ length (wires a b 0 net)
  pulse-length = run_length a b net (pulse k j a b net) pulse_run

  -- The moments after the first phase and after the second: exactly the wires of a lower phase have moved.
  abbrev pub after_first : List Wire
  after_first = after (in_phase k j a b net 0) []

  abbrev pub after_second : List Wire
  after_second = after (in_phase k j a b net 1) after_first

  first-moved : Moved a b net (λ w. ltb (place w) 1) after_first
  first-moved =
      record {
        gone = λ w t. let h = ltb→lt (place w) 1 t in omega (arith, times_after (in_phase k j a b net 0) [] w, times_part place few 0 (wires a b 0 net) w (omega arith));
        left = λ w t.
            let ne : place w ≢ 0 = λ e. t (lt→ltb (place w) 1 (omega arith)) in
            omega (arith, times_after (in_phase k j a b net 0) [] w, times-apart place few 0 (wires a b 0 net) w ne);
      }

  second_moved : Moved a b net (λ w. ltb (place w) 2) after_second
  second_moved =
      record {
        gone = λ w t. let h = ltb→lt (place w) 2 t in sum w ∙ elim (ℕ_discrete (place w) 0) [
          | yes e ↦ omega (arith, times_part place few 0 (wires a b 0 net) w e, times-apart place few 1 (wires a b 0 net) w (omega arith))
          | no ne ↦ omega (arith, times-apart place few 0 (wires a b 0 net) w ne, times_part place few 1 (wires a b 0 net) w (omega arith))
        ];
        left = λ w t.
            let h : ¬ (place w < 2) = λ l. t (lt→ltb (place w) 2 l) in
            sum w ∙ omega (arith, times-apart place few 0 (wires a b 0 net) w (omega arith), times-apart place few 1 (wires a b 0 net) w (omega arith));
      }
    where
      sum : (w : Wire) → times after_second w ≡ times (in_phase k j a b net 1) w + times (in_phase k j a b net 0) w
      sum w = omega (arith, times_after (in_phase k j a b net 1) after_first w, times_after (in_phase k j a b net 0) [] w)

  -- What a literal sees then.
  abbrev late : ℕ → ℕ → Bool
  late i m = eqb (dig (product_at net m) i) (bit b i)

  pub first-sees : (m i : ℕ) → m < length net → dig (product_at net m) i ≢ 2
      → sees a b after_first m i ≡ cond (ltb (phase k (eqb m j) (late i m)) 1) (bit b i) (bit a i)
  first-sees m i l ne = moved-sees a b net first-moved m i l ne

  pub second_sees : (m i : ℕ) → m < length net → dig (product_at net m) i ≢ 2
      → sees a b after_second m i ≡ cond (ltb (phase k (eqb m j) (late i m)) 2) (bit b i) (bit a i)
  second_sees m i l ne = moved-sees a b net second_moved m i l ne

-- A product has at most as many wires as literals, so the network has at most n times its products.
wires_of_length : (a b j i : ℕ) (p : Cube) → length (wires_of a b j i p) ≤ length p
wires_of_length a b j i [] = omega arith
wires_of_length a b j i (d ∷ ds) = go (not (eqb d 2) && not (eqb (bit a i) (bit b i))) (wires_of_length a b j (suc i) ds)
  where
    go : (c : Bool) → length (wires_of a b j (suc i) ds) ≤ length ds
        → length {A = Wire} (elim c [ true ↦ wire j i ∷ wires_of a b j (suc i) ds | false ↦ wires_of a b j (suc i) ds ]) ≤ suc (length ds)
    go true h = omega arith
    go false h = omega arith

pub wires-length : (n a b j : ℕ) (net : Network) → Products n net → length (wires a b j net) ≤ n * length net
wires-length n a b j [] good = omega arith
wires-length n a b j (p ∷ net) good =
    omega (
      arith,
      length-append (wires_of a b j 0 p) (wires a b (suc j) net),
      wires_of_length a b j 0 p,
      digits-length (good 0 (omega arith)),
      wires-length n a b (suc j) net (λ i l. good (suc i) (omega arith)),
      mul-suc n (length net),
    )

pub pulse-few : (n : ℕ) (k : Kind) (j a b : ℕ) (net : Network) → Products n net → length (pulse k j a b net) ≤ n * length net
pulse-few n k j a b net good = omega (arith, pulse-length k j a b net, wires-length n a b 0 net good)

-- Where no literal is on a moving input there is nothing to move: so where A = B.
pub pulse_empty : (k : Kind) (j a b : ℕ) (net : Network) → ((w : Wire) → ¬ Literal a b net w) → pulse k j a b net ≡ []
pulse_empty k j a b net h = none (pulse k j a b net) (λ w. (run_wires a b net (pulse k j a b net) (pulse_run k j a b net) w).1 (h w))
  where
    none : (l : List Wire) → ((w : Wire) → times l w ≡ 0) → l ≡ []
    none [] z = refl
    none (w ∷ ws) z = absurd (omega (arith, z w, seen-times (w ∷ ws) w (or_l (same_wire w w) (seen ws w) (simp tests (refl, refl)))))

pub pulse_still : (k : Kind) (j a : ℕ) (net : Network) → pulse k j a a net ≡ []
pulse_still k j a net = pulse_empty k j a a net (λ w l. l.moving refl)

-- 1 to 1: after the first phase every literal with B's value sees A's, and the others see B's. A product that is on there contains both ends.
pub high-pulse : (j a b : ℕ) (net : Network) → ¬ Joint net a b → ¬ Allowed high (outputs a b net [] (pulse high j a b net))
high-pulse j a b net apart allowed = apart (joint (out_e a b m net (so (constant_at a b net true (in_phase high j a b net 0) (in_phase high j a b net 1 ++ in_phase high j a b net 2) allowed))))
  where
    m : List Wire
    m = after_first high j a b net

    joint : (k : ℕ) × (k < length net) × On a b net m k → Joint net a b
    joint (k, l, on) = (k, l, has_i (product_at net k) a (λ i ne. (both i ne).0), has_i (product_at net k) b (λ i ne. (both i ne).1))
      where
        both : (i : ℕ) → dig (product_at net k) i ≢ 2 → (dig (product_at net k) i ≡ bit a i) × (dig (product_at net k) i ≡ bit b i)
        both i ne = go (eqb (dig (product_at net k) i) (bit b i)) refl (on i ne ∙ first-sees high j a b net k i l ne)
          where
            go : (late : Bool) → eqb (dig (product_at net k) i) (bit b i) ≡ late → dig (product_at net k) i ≡ cond (ltb (cond late 1 0) 1) (bit b i) (bit a i)
                → (dig (product_at net k) i ≡ bit a i) × (dig (product_at net k) i ≡ bit b i)
            go true e s = (s, eqb→eq (dig (product_at net k) i) (bit b i) (so e))
            go false e s = absurd (so_not e (eqb_of s))

-- What the phases of the dynamic kinds amount to: a literal of the named product, and one of another.
module _ (x y : ℕ) where
  fall_first : (named late : Bool) → cond (ltb (phase fall named late) 1) x y ≡ cond named y x
  fall_first true true = refl
  fall_first true false = refl
  fall_first false late = refl

  fall_second : (late : Bool) → cond (ltb (phase fall true late) 2) x y ≡ cond late x y
  fall_second true = refl
  fall_second false = refl

  rise_first : (late : Bool) → cond (ltb (phase rise true late) 1) x y ≡ cond late x y
  rise_first true = refl
  rise_first false = refl

  rise_second : (named late : Bool) → cond (ltb (phase rise named late) 2) x y ≡ cond named x y
  rise_second true true = refl
  rise_second true false = refl
  rise_second false late = refl

-- A product j that has a point x of [A,B].
module _ (n a b : ℕ) (net : Network) (good : Products n net) (j : ℕ) (l : j < length net) (x : ℕ) (at_x : T (has (product_at net j) x)) (between_ends : T (has (span n a b) x)) where
  -- It is on where its literals with B's value see B's value, and the others A's.
  on_at : (m : List Wire) → ((i : ℕ) → dig (product_at net j) i ≢ 2 → sees a b m j i ≡ cond (eqb (dig (product_at net j) i) (bit b i)) (bit b i) (bit a i)) → out a b net m ≡ true
  on_at m see = is (out_i a b m net j l (λ i ne. go i ne (known (eqb (dig (product_at net j) i) (bit b i))) ∙ sym (see i ne)))
    where
      other : (i : ℕ) → dig (product_at net j) i ≢ 2 → dig (product_at net j) i ≢ bit b i → dig (product_at net j) i ≡ bit a i
      other i ne u =
          let e = has_e (product_at net j) x at_x i ne in
          elim (ℕ_discrete (bit a i) (bit b i)) [
            | yes c ↦ e ∙ sym (in_e n a b x between_ends i (dig_short (good j l) ne) c)
            | no c ↦ omega (arith, bit-lt x i, bit-lt a i, bit-lt b i)
          ]

      go : (i : ℕ) → dig (product_at net j) i ≢ 2 → T (eqb (dig (product_at net j) i) (bit b i)) ⊎ (¬ T (eqb (dig (product_at net j) i) (bit b i)))
          → dig (product_at net j) i ≡ cond (eqb (dig (product_at net j) i) (bit b i)) (bit b i) (bit a i)
      go i ne (inl t) = eqb→eq (dig (product_at net j) i) (bit b i) t ∙ sym (cond_yes (eqb (dig (product_at net j) i) (bit b i)) (bit b i) (bit a i) t)
      go i ne (inr t) = other i ne (λ e. t (eqb_of e)) ∙ sym (cond_no (eqb (dig (product_at net j) i) (bit b i)) (bit b i) (bit a i) t)

  -- The output is 0 where j sees s, which it lacks, and the others see e, where the network gives 0.
  off_at : (m : List Wire) (s e : ℕ) → ((i : ℕ) → dig (product_at net j) i ≢ 2 → sees a b m j i ≡ bit s i)
      → ((k : ℕ) → k < length net → k ≢ j → (i : ℕ) → dig (product_at net k) i ≢ 2 → sees a b m k i ≡ bit e i)
      → ¬ T (has (product_at net j) s) → gives net e ≡ false → out a b net m ≡ false
  off_at m s e mine others lacks zero' = isnt (out a b net m) (λ t. go (out_e a b m net t))
    where
      go : ¬ ((k : ℕ) × (k < length net) × On a b net m k)
      go (k, h, on) =
          elim (ℕ_discrete k j) [
            | yes c ↦ lacks (has_i (product_at net j) s (λ i ne. subst (On a b net m) c on i ne ∙ mine i ne))
            | no c ↦ so_not zero' (gives_i net e k h (has_i (product_at net k) e (λ i ne. on i ne ∙ others k h c i ne)))
          ]

  -- 1 to 0: 0 after the first phase, where j still sees A and the others see B; then 1 after the second.
  pub fall_pulse : ¬ T (has (product_at net j) a) → gives net b ≡ false → ¬ Allowed fall (outputs a b net [] (pulse fall j a b net))
  fall_pulse lacks zero' allowed =
      true≢false (sym on' ∙ turns_at a b net true (in_phase fall j a b net 0) (in_phase fall j a b net 1) (in_phase fall j a b net 2) allowed off')
    where
      off' : out a b net (after_first fall j a b net) ≡ false
      off' = off_at (after_first fall j a b net) a b
          (λ i ne. first-sees fall j a b net j i l ne ∙ fall_first (bit b i) (bit a i) (eqb j j) (late fall j a b net i j) ∙ rw (eqb_self j))
          (λ k h c i ne. first-sees fall j a b net k i h ne ∙ fall_first (bit b i) (bit a i) (eqb k j) (late fall j a b net i k) ∙ cond_no (eqb k j) (bit a i) (bit b i) (λ t. c (eqb→eq k j t)))
          lacks zero'

      on' : out a b net (after_second fall j a b net) ≡ true
      on' = on_at (after_second fall j a b net) (λ i ne. second_sees fall j a b net j i l ne ∙ rw (eqb_self j) (fall_second (bit b i) (bit a i) (late fall j a b net i j)))

  -- 0 to 1: 1 after the first phase; then 0 after the second, where j sees B and the others still see A.
  pub rise_pulse : ¬ T (has (product_at net j) b) → gives net a ≡ false → ¬ Allowed rise (outputs a b net [] (pulse rise j a b net))
  rise_pulse lacks zero' allowed =
      true≢false (sym (turns_at a b net false (in_phase rise j a b net 0) (in_phase rise j a b net 1) (in_phase rise j a b net 2) allowed on') ∙ off')
    where
      on' : out a b net (after_first rise j a b net) ≡ true
      on' = on_at (after_first rise j a b net) (λ i ne. first-sees rise j a b net j i l ne ∙ rw (eqb_self j) (rise_first (bit b i) (bit a i) (late rise j a b net i j)))

      off' : out a b net (after_second rise j a b net) ≡ false
      off' = off_at (after_second rise j a b net) b a
          (λ i ne. second_sees rise j a b net j i l ne ∙ rise_second (bit b i) (bit a i) (eqb j j) (late rise j a b net i j) ∙ rw (eqb_self j))
          (λ k h c i ne. second_sees rise j a b net k i h ne ∙ rise_second (bit b i) (bit a i) (eqb k j) (late rise j a b net i k) ∙ cond_no (eqb k j) (bit b i) (bit a i) (λ t. c (eqb→eq k j t)))
          lacks zero'
