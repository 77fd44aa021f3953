-- Moments of a run, by a test on the wires that have moved.
use mathlib.Core.Path.{◌≡◌, refl, sym, ◌∙◌}
use mathlib.Core.Logic.{◌≢◌, ◌⊎◌, inl, inr}
use mathlib.Core.Bool.{Bool, true, cond}
use mathlib.Core.List.{List, []}
use Prim.Native.Nat.{ℕ, ◌<◌}
use native.Mathlib.Omega.{arith}
use native.Mathlib.Decide.{ℕ_discrete}
use lib.Dec.{T}
use lib.ListN.{length}
use Rattle.hazard.specs.Cube.{bit}
use Rattle.hazard.specs.Cover.{Network, product_at, gives}
use Rattle.hazard.specs.Run.{Wire, wire, times, wires, Run, sees, outputs}
use Rattle.hazard.proofs.Test.{known, cond_yes, cond_no, bool_ext}
use Rattle.hazard.proofs.Point.{dig, has_e, has_i}
use Rattle.hazard.proofs.Network.{gives_e, gives_i}
use Rattle.hazard.proofs.Wire.{times-seen, seen-times, after, times_after, times_literal}
use Rattle.hazard.proofs.Trace.{out}
use Rattle.hazard.proofs.View.{out_e, out_i, sees-moved, sees_unmoved, sees_either}

module _ (a b : ℕ) (net : Network) where
  abbrev all : List Wire
  all = wires a b 0 net

  -- The output list of every run is one of P.
  abbrev pub Runs : (List Bool → Type 0) → Type 0
  Runs P = (r : List Wire) → Run a b net r → P (outputs a b net [] r)

  -- In m exactly the wires that pass the test have moved.
  pub record Moved (q : Wire → Bool) (m : List Wire) : Type 0 where
    pub gone : (w : Wire) → T (q w) → times m w ≡ times all w
    pub left : (w : Wire) → ¬ T (q w) → times m w ≡ 0

  -- What a literal then sees.
  pub moved-sees : {q : Wire → Bool} {m : List Wire} → Moved q m → (k i : ℕ) → k < length net → dig (product_at net k) i ≢ 2
      → sees a b m k i ≡ cond (q (wire k i)) (bit b i) (bit a i)
  moved-sees {q} {m} h k i l ne = go (known (q (wire k i))) (ℕ_discrete (bit a i) (bit b i))
    where
      go : T (q (wire k i)) ⊎ (¬ T (q (wire k i))) → Dec (bit a i ≡ bit b i) → sees a b m k i ≡ cond (q (wire k i)) (bit b i) (bit a i)
      go (inr t) d =
          sees_unmoved a b m k i (λ u. omega (arith, seen-times m (wire k i) u, h.left (wire k i) t)) ∙ sym (cond_no (q (wire k i)) (bit b i) (bit a i) t)
      go (inl t) (yes e) = elim (sees_either a b m k i) [ inl u ↦ u ∙ e | inr u ↦ u ] ∙ sym (cond_yes (q (wire k i)) (bit b i) (bit a i) t)
      go (inl t) (no d) =
          sees-moved a b m k i (times-seen m (wire k i) (omega (
            arith,
            h.gone (wire k i) t,
            times_literal a b net (wire k i) (record { place = l; literal = ne; moving = d }),
          )))
          ∙ sym (cond_yes (q (wire k i)) (bit b i) (bit a i) t)

  -- Where all literals see one point, the output is the network's value there.
  all_see : (m : List Wire) (x : ℕ) → ((k i : ℕ) → k < length net → dig (product_at net k) i ≢ 2 → sees a b m k i ≡ bit x i) → out a b net m ≡ gives net x
  all_see m x h =
      bool_ext (out a b net m) (gives net x)
      (λ t. let r = out_e a b m net t in gives_i net x r.0 r.1 (has_i (product_at net r.0) x (λ i ne. r.2 i ne ∙ h r.0 i r.1 ne)))
      (λ t. let r = gives_e net x t in out_i a b m net r.0 r.1 (λ i ne. has_e (product_at net r.0) x r.2 i ne ∙ sym (h r.0 i r.1 ne)))

  pub out_start : out a b net [] ≡ gives net a
  out_start = all_see [] a (λ k i l ne. refl)

  pub out_end : (r : List Wire) → Run a b net r → out a b net (after r []) ≡ gives net b
  out_end r h = all_see (after r []) b (λ k i l ne. moved-sees {q = λ w. true} whole k i l ne)
    where
      whole : Moved (λ w. true) (after r [])
      whole = record { gone = λ w t. omega (arith, times_after r [] w, h w); left = λ w t. absurd (t tt) }
