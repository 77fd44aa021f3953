-- The wires that pass a test, input by input and product by product.
use mathlib.Core.Path.{◌≡◌, refl, ap, ◌∙◌}
use mathlib.Core.Bool.{Bool, true, false, not, ◌&&◌}
use mathlib.Core.List.{List, [], ◌∷◌, ◌++◌}
use Prim.Native.Nat.{ℕ, suc, ◌+◌, ◌≤◌, ◌<◌}
use native.Mathlib.Numerals.{add-one}
use lib.Dec.{eqb}
use lib.ListN.{length, drop, drop_of_length-le}
use lib.Seq.{drop-cons}
use Rattle.hazard.specs.Cube.{Cube, bit}
use Rattle.hazard.specs.Cover.{Network, product_at}
use Rattle.hazard.specs.Run.{Wire, wire, wires_of, wires}
use Rattle.hazard.specs.Pulse.{passing}
use Rattle.hazard.proofs.Point.{dig}
use Rattle.witness.specs.Phase.{wire_if}

passing-append : (q : Wire → Bool) (r s : List Wire) → passing q (r ++ s) ≡ passing q r ++ passing q s
passing-append q [] s = refl
passing-append q (w ∷ ws) s = go (q w) (passing-append q ws s)
  where
    go : (c : Bool) → passing q (ws ++ s) ≡ passing q ws ++ passing q s
        → ◌≡◌ {A = List Wire} (elim c [ true ↦ w ∷ passing q (ws ++ s) | false ↦ passing q (ws ++ s) ]) ((elim c [ true ↦ w ∷ passing q ws | false ↦ passing q ws ]) ++ passing q s)
    go true h = ap {B = List Wire} (λ l. w ∷ l) h
    go false h = h

-- Tests that agree on a product's wires pass the same of them.
pub passing-same : (q r : Wire → Bool) (a b j i : ℕ) (p : Cube) → ((i : ℕ) → q (wire j i) ≡ r (wire j i)) → passing q (wires_of a b j i p) ≡ passing r (wires_of a b j i p)
passing-same q r a b j i [] h = refl
passing-same q r a b j i (d ∷ ds) h = go (not (eqb d 2) && not (eqb (bit a i) (bit b i))) (passing-same q r a b j (suc i) ds h)
  where
    below : List Wire
    below = wires_of a b j (suc i) ds

    asked : (x y : Bool) → x ≡ y → passing q below ≡ passing r below
        → ◌≡◌ {A = List Wire} (elim x [ true ↦ wire j i ∷ passing q below | false ↦ passing q below ]) (elim y [ true ↦ wire j i ∷ passing r below | false ↦ passing r below ])
    asked x true e g = rw e (ap {B = List Wire} (λ l. wire j i ∷ l) g)
    asked x false e g = rw e g

    go : (t : Bool) → passing q below ≡ passing r below → passing q (elim t [ true ↦ wire j i ∷ below | false ↦ below ]) ≡ passing r (elim t [ true ↦ wire j i ∷ below | false ↦ below ])
    go true g = asked (q (wire j i)) (r (wire j i)) (h i) g
    go false g = g

module _ (q : Wire → Bool) (a b : ℕ) where
  -- Of product j, whose digits are p, from input i on.
  abbrev pub inputs_ahead : ℕ → Cube → ℕ → List Wire
  inputs_ahead j p i = passing q (wires_of a b j i (drop i p))

  -- Of the products from place j on.
  abbrev pub products_ahead : Network → ℕ → List Wire
  products_ahead net j = passing q (wires a b j (drop j net))

  -- The wire of input i in product j comes: there is a literal, its input moves, and it passes the test.
  abbrev pub comes : ℕ → Cube → ℕ → Bool
  comes j p i = (not (eqb (dig p i) 2) && not (eqb (bit a i) (bit b i))) && q (wire j i)

  -- One input.
  pub inputs-turn : (j : ℕ) (p : Cube) (i : ℕ) → i < length p → inputs_ahead j p i ≡ wire_if (comes j p i) j i ++ inputs_ahead j p (i + 1)
  inputs-turn j p i l = rw add-one (ap (λ (c : Cube). passing q (wires_of a b j i c)) (drop-cons p i 2 l) ∙ go (not (eqb (dig p i) 2) && not (eqb (bit a i) (bit b i))))
    where
      below : List Wire
      below = wires_of a b j (suc i) (drop (suc i) p)

      asked : (c : Bool) → ◌≡◌ {A = List Wire} (elim c [ true ↦ wire j i ∷ passing q below | false ↦ passing q below ]) (wire_if c j i ++ passing q below)
      asked true = refl
      asked false = refl

      go : (t : Bool) → passing q (elim t [ true ↦ wire j i ∷ below | false ↦ below ]) ≡ wire_if (t && q (wire j i)) j i ++ passing q below
      go true = asked (q (wire j i))
      go false = refl

  pub inputs_end : (j : ℕ) (p : Cube) (i : ℕ) → length p ≤ i → inputs_ahead j p i ≡ []
  inputs_end j p i l = rw (drop_of_length-le p l)

  -- One product.
  pub products-turn : (net : Network) (j : ℕ) → j < length net → products_ahead net j ≡ inputs_ahead j (product_at net j) 0 ++ products_ahead net (j + 1)
  products-turn net j l =
      rw add-one (ap (λ (ps : Network). passing q (wires a b j ps)) (drop-cons net j [] l)
      ∙ passing-append q (wires_of a b j 0 (product_at net j)) (wires a b (suc j) (drop (suc j) net)))

  pub products-end : (net : Network) (j : ℕ) → length net ≤ j → products_ahead net j ≡ []
  products-end net j l = rw (drop_of_length-le net l)
