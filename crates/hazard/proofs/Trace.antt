-- Output lists: how they are shown to be allowed, and what an allowed list says of two moments.
use mathlib.Core.Path.{◌≡◌, refl, sym, ◌∙◌, subst⁻¹}
use mathlib.Core.Logic.{◌≢◌, ◌⊎◌, inl, inr}
use mathlib.Core.Bool.{Bool, true, false, not, true≢false, false≢true}
use mathlib.Core.List.{List, [], ◌∷◌, ◌++◌}
use Prim.Native.Nat.{ℕ}
use Rattle.hazard.specs.Cover.{Network}
use Rattle.hazard.specs.Run.{Wire, output, outputs, Constant, Turns, turn, hold}
use Rattle.hazard.proofs.Wire.{after}

pub not_self : (v : Bool) → v ≢ not v
not_self true = true≢false
not_self false = false≢true

either : (v b : Bool) → (b ≡ v) ⊎ (b ≡ not v)
either true true = inl refl
either true false = inr refl
either false true = inr refl
either false false = inl refl

-- Once v is left, it does not come back.
abbrev Sorted : Bool → List Bool → Type 0
Sorted v [] = Unit {0}
Sorted v (b ∷ bs) = (b ≡ not v → Constant (not v) bs) × Sorted v bs

constant_sorted : (v : Bool) (bs : List Bool) → Constant (not v) bs → Sorted v bs
constant_sorted v [] c = tt
constant_sorted v (b ∷ bs) c = (λ e. c.1, constant_sorted v bs c.1)

turns-sorted : {v : Bool} {bs : List Bool} → Turns v bs → Sorted v bs
turns-sorted {v} (turn {bs = bs} c) = (λ e. absurd (not_self v e), (λ e. c, constant_sorted v bs c))
turns-sorted {v} (hold t) = (λ e. absurd (not_self v e), turns-sorted t)

module _ (a b : ℕ) (net : Network) where
  -- The output once the wires of m have moved.
  abbrev pub out : List Wire → Bool
  out m = output a b m 0 net

  -- An output that is v whatever has moved.
  pub constant : (v : Bool) → ((m : List Wire) → out m ≡ v) → (m r : List Wire) → Constant v (outputs a b net m r)
  constant v h m [] = (h m, tt)
  constant v h m (w ∷ ws) = (h m, constant v h (w ∷ m) ws)

  -- An output that starts with v, ends with the other value, and never leaves that value by one more wire.
  module _ (v : Bool) (stays : (m : List Wire) (w : Wire) → out m ≡ not v → out (w ∷ m) ≡ not v) where
    rest : (m r : List Wire) → out m ≡ not v → Constant (not v) (outputs a b net m r)
    rest m [] e = (e, tt)
    rest m (w ∷ ws) e = (e, rest (w ∷ m) ws (stays m w e))

    turned : (m r : List Wire) → out m ≡ not v → Turns v (v ∷ outputs a b net m r)
    turned m [] e = subst⁻¹ (λ (o : Bool). Turns v (v ∷ o ∷ [])) e (turn tt)
    turned m (w ∷ ws) e = subst⁻¹ (λ (o : Bool). Turns v (v ∷ o ∷ outputs a b net (w ∷ m) ws)) e (turn (rest (w ∷ m) ws (stays m w e)))

    pub turns : (m r : List Wire) → out m ≡ v → out (after r m) ≡ not v → Turns v (outputs a b net m r)
    turns m [] e z = absurd (not_self v (sym e ∙ z))
    turns m (w ∷ ws) e z =
        subst⁻¹ (λ (o : Bool). Turns v (o ∷ outputs a b net (w ∷ m) ws)) e
        (elim (either v (out (w ∷ m))) [ inl s ↦ hold (turns (w ∷ m) ws s z) | inr s ↦ turned (w ∷ m) ws s ])

  now : (v : Bool) (m r : List Wire) → Constant v (outputs a b net m r) → out m ≡ v
  now v m [] c = c.0
  now v m (w ∷ ws) c = c.0

  later : (v : Bool) (m r s : List Wire) → Constant v (outputs a b net m (r ++ s)) → Constant v (outputs a b net (after r m) s)
  later v m [] s c = c
  later v m (w ∷ ws) s c = later v (w ∷ m) ws s c.1

  sorted_at : (v : Bool) (m r s : List Wire) → Sorted v (outputs a b net m (r ++ s)) → out (after r m) ≡ not v → Constant (not v) (outputs a b net (after r m) s)
  sorted_at v m [] [] c e = (e, tt)
  sorted_at v m [] (w ∷ ws) c e = (e, c.0 e)
  sorted_at v m (w ∷ ws) s c e = sorted_at v (w ∷ m) ws s c.1 e

  -- The output after the wires of r.
  pub constant_at : (v : Bool) (r s : List Wire) → Constant v (outputs a b net [] (r ++ s)) → out (after r []) ≡ v
  constant_at v r s c = now v (after r []) s (later v [] r s c)

  -- The outputs after the wires of r, and after those of r and then of s.
  pub turns_at : (v : Bool) (r s t : List Wire) → Turns v (outputs a b net [] (r ++ (s ++ t))) → out (after r []) ≡ not v → out (after s (after r [])) ≡ not v
  turns_at v r s t m e = now (not v) (after s (after r [])) t (later (not v) (after r []) s t (sorted_at v [] r (s ++ t) (turns-sorted m) e))
