-- Wires written one after another: the loops over the inputs of a product and over the products, and a run phase after phase.
use mathlib.Core.Path.{◌≡◌, refl, sym, ap, ◌∙◌, subst}
use mathlib.Core.Bool.{Bool, true, false}
use mathlib.Core.List.{List, [], ◌∷◌, ◌++◌, append_assoc, append-nil}
use Prim.Native.Nat.{ℕ, ◌+◌, ◌-◌, ◌*◌, ◌/◌, ◌≤◌, ◌<◌}
use native.Mathlib.Omega.{arith}
use lib.Dec.{eqb}
use lib.ListN.{length, set, take, drop, length-append, length-drop}
use lib.Seq.{length-take-le}
use Rattle.hazard.specs.Cube.{Cube, bit}
use Rattle.hazard.specs.Transition.{Kind}
use Rattle.hazard.specs.Cover.{Network, product_at}
use Rattle.hazard.specs.Run.{Wire, wire}
use Rattle.hazard.specs.Shown.{numbers}
use Rattle.hazard.specs.Pulse.{phase_of, in_phase, pulse}
use Rattle.hazard.proofs.Point.{dig}
use Rattle.writing.specs.Put.{Put}
use Rattle.writing.proofs.Putting.{put_one, put_then}
use borrow.Rule.Slice.PartMut.{put_mid}
use Rattle.witness.specs.Phase.{moves, wire_if, in_phase_of}
use Rattle.witness.specs.Shows.{Written}
use Rattle.witness.proofs.Ahead.{passing-same, inputs_ahead, products_ahead, inputs-turn, inputs_end, products-turn, products-end}

numbers-append : (r s : List Wire) → numbers (r ++ s) ≡ numbers r ++ numbers s
numbers-append [] s = refl
numbers-append (w ∷ ws) s = ap {B = List ℕ} (λ l. w.product ∷ w.input ∷ l) (numbers-append ws s)

pub numbers-length : (r : List Wire) → length (numbers r) ≡ 2 * length r
numbers-length [] = refl
numbers-length (w ∷ ws) = omega (arith, numbers-length ws)

append-length : (r s : List Wire) → length (numbers (r ++ s)) ≡ length (numbers r) + length (numbers s)
append-length r s = ap (λ (l : List ℕ). length l) (numbers-append r s) ∙ length-append (numbers r) (numbers s)

put_none : (before : List ℕ) → Put before [] before 0
put_none before = record { is = refl; counted = refl }

-- One wire.
put_wire : {before : List ℕ} (j i : ℕ) → 2 ≤ length before → Put before (numbers (wire j i ∷ [])) (set (set before 0 j) 1 i) 2
put_wire {before} j i h = put_one i (put_one j (put_none before) (omega arith)) (omega arith)

-- Part of the wires is written, the others are left.
pub record Writing (whole : List Wire) (before : List ℕ) (left : List Wire) (out : List ℕ) (next : ℕ) : Type 0 where
  pub done : List Wire
  pub split : done ++ left ≡ whole
  pub put : Put before (numbers done) out next

-- The buffer keeps its length.
pub put_long : {before out numbers : List ℕ} {next : ℕ} → Put before numbers out next → next ≤ length before → length out ≡ length before
put_long {before} {numbers = numbers} p h = rw p.is (length-append numbers (drop (length numbers) before) ∙ rw length-drop (omega (arith, p.counted)))

-- As much room is left as was not taken.
pub put_rest : {before mid numbers : List ℕ} {k m : ℕ} → Put before numbers mid k → k + m ≤ length before → m ≤ length (take (length mid - k) (drop k mid))
put_rest {mid = mid} {k = k} p h = omega (arith, put_long p (omega arith), length-take-le (length mid - k) (drop k mid) (omega (arith, length-drop k mid)))

module _ (whole : List Wire) (before : List ℕ) where
  -- All are left; none are left; what is left, said otherwise.
  pub writing_start : Writing whole before whole before 0
  writing_start = record { done = []; split = refl; put = put_none before }

  pub writing_end : {out : List ℕ} {next : ℕ} → Writing whole before [] out next → Put before (numbers whole) out next
  writing_end s = rw (sym (append-nil s.done) ∙ s.split) at s.put

  pub writing_as : {l m : List Wire} {out : List ℕ} {next : ℕ} → l ≡ m → Writing whole before l out next → Writing whole before m out next
  writing_as {out = out} {next = next} e s = subst (λ (r : List Wire). Writing whole before r out next) e s

  -- More of them are written, into the rest of the buffer.
  pub writing_more : (r : List Wire) {left : List Wire} {mid rest : List ℕ} {k m : ℕ} → Writing whole before (r ++ left) mid k → Put (take (length mid - k) (drop k mid)) (numbers r) rest m
      → Writing whole before left (put_mid k (length mid - k) mid rest) (k + m)
  writing_more r {left} s w =
      record {
        done = s.done ++ r;
        split = append_assoc s.done r left ∙ s.split;
        put = rw (numbers-append s.done r) (put_then s.put w);
      }

  -- There is room for more where there is room for all.
  module _ (r left : List Wire) {out : List ℕ} {next : ℕ} (s : Writing whole before (r ++ left) out next) (h : length (numbers whole) ≤ length before) where
    done_and_more : next + length (numbers r) ≤ length before
    done_and_more =
        let e : length (numbers whole) ≡ length (numbers s.done) + length (numbers (r ++ left)) = ap (λ (l : List Wire). length (numbers l)) (sym s.split) ∙ append-length s.done (r ++ left) in
        omega (arith, s.put.counted, append-length r left)

    pub writing_place : next ≤ length out
    writing_place = omega (arith, done_and_more, put_long s.put (omega (arith, done_and_more)))

    pub writing_room : length (numbers r) ≤ length (take (length out - next) (drop next out))
    writing_room = put_rest s.put done_and_more

-- A wire that is here, and one that is not.
module _ {here : Bool} (before : List ℕ) (j i : ℕ) where
  pub wire-room : here ≡ true → length (numbers (wire_if here j i)) ≤ length before → 2 ≤ length before
  wire-room e h = rw e at h

  pub wire_here : here ≡ true → length (numbers (wire_if here j i)) ≤ length before → Put before (numbers (wire_if here j i)) (set (set before 0 j) 1 i) 2
  wire_here e h = rw e (put_wire j i (wire-room e h))

  pub wire-none : here ≡ false → Put before (numbers (wire_if here j i)) before 0
  wire-none e = rw e (put_none before)

-- The wires of product m that move in phase q: the loop over its inputs.
module _ (k : Kind) (j a b q m : ℕ) (p : Cube) (before : List ℕ) where
  abbrev mine : Wire → Bool
  mine w = eqb (phase_of k j b p w) q

  abbrev pub InputsLeft : List ℕ → ℕ → ℕ → Type 0
  InputsLeft out next i = Writing (in_phase_of k j a b q m p) before (inputs_ahead mine a b m p i) out next

  pub inputs-start : InputsLeft before 0 0
  inputs-start = writing_start (in_phase_of k j a b q m p) before

  module _ {i : ℕ} (l : i < length p) {d : ℕ} (e : d ≡ dig p i) {here : Bool} (h : here ≡ moves k (eqb m j) q d (bit a i) (bit b i)) {mid : List ℕ} {next : ℕ} (s : InputsLeft mid next i) where
    split : Writing (in_phase_of k j a b q m p) before (wire_if here m i ++ inputs_ahead mine a b m p (i + 1)) mid next
    split = writing_as (in_phase_of k j a b q m p) before
        (inputs-turn mine a b m p i l
        ∙ ap (λ (c : Bool). wire_if c m i ++ inputs_ahead mine a b m p (i + 1)) (sym (h ∙ ap (λ (x : ℕ). moves k (eqb m j) q x (bit a i) (bit b i)) e))) s

    pub input-place : length (numbers (in_phase_of k j a b q m p)) ≤ length before → next ≤ length mid
    input-place r = writing_place (in_phase_of k j a b q m p) before (wire_if here m i) (inputs_ahead mine a b m p (i + 1)) split r

    pub input-room : length (numbers (in_phase_of k j a b q m p)) ≤ length before → length (numbers (wire_if here m i)) ≤ length (take (length mid - next) (drop next mid))
    input-room r = writing_room (in_phase_of k j a b q m p) before (wire_if here m i) (inputs_ahead mine a b m p (i + 1)) split r

    pub input-turn : {out : List ℕ} {count : ℕ} → Put (take (length mid - next) (drop next mid)) (numbers (wire_if here m i)) out count → InputsLeft (put_mid next (length mid - next) mid out) (next + count) (i + 1)
    input-turn w = writing_more (in_phase_of k j a b q m p) before (wire_if here m i) split w

  pub inputs_wrote : {i : ℕ} → length p ≤ i → {out : List ℕ} {next : ℕ} → InputsLeft out next i → Put before (numbers (in_phase_of k j a b q m p)) out next
  inputs_wrote {i} l s = writing_end (in_phase_of k j a b q m p) before (writing_as (in_phase_of k j a b q m p) before (inputs_end mine a b m p i l) s)

-- The network's wires that move in phase q: the loop over the products.
module _ (k : Kind) (j a b q : ℕ) (net : Network) (before : List ℕ) where
  abbrev test : Wire → Bool
  test w = eqb (phase_of k j b (product_at net w.product) w) q

  abbrev pub ProductsLeft : List ℕ → ℕ → ℕ → Type 0
  ProductsLeft out next m = Writing (in_phase k j a b net q) before (products_ahead test a b net m) out next

  pub products-start : ProductsLeft before 0 0
  products-start = writing_start (in_phase k j a b net q) before

  module _ {m : ℕ} (l : m < length net) {p : Cube} (e : p ≡ product_at net m) {mid : List ℕ} {next : ℕ} (s : ProductsLeft mid next m) where
    split_product : Writing (in_phase k j a b net q) before (in_phase_of k j a b q m p ++ products_ahead test a b net (m + 1)) mid next
    split_product = writing_as (in_phase k j a b net q) before
        (products-turn test a b net m l
        ∙ ap (λ (ws : List Wire). ws ++ products_ahead test a b net (m + 1))
        (passing-same test (λ w. eqb (phase_of k j b (product_at net m) w) q) a b m 0 (product_at net m) (λ i. refl) ∙ ap (in_phase_of k j a b q m) (sym e))) s

    pub product-place : length (numbers (in_phase k j a b net q)) ≤ length before → next ≤ length mid
    product-place r = writing_place (in_phase k j a b net q) before (in_phase_of k j a b q m p) (products_ahead test a b net (m + 1)) split_product r

    pub product-room : length (numbers (in_phase k j a b net q)) ≤ length before → length (numbers (in_phase_of k j a b q m p)) ≤ length (take (length mid - next) (drop next mid))
    product-room r = writing_room (in_phase k j a b net q) before (in_phase_of k j a b q m p) (products_ahead test a b net (m + 1)) split_product r

    pub product-turn : {out : List ℕ} {count : ℕ} → Put (take (length mid - next) (drop next mid)) (numbers (in_phase_of k j a b q m p)) out count → ProductsLeft (put_mid next (length mid - next) mid out) (next + count) (m + 1)
    product-turn w = writing_more (in_phase k j a b net q) before (in_phase_of k j a b q m p) split_product w

  pub products_wrote : {m : ℕ} → length net ≤ m → {out : List ℕ} {next : ℕ} → ProductsLeft out next m → Put before (numbers (in_phase k j a b net q)) out next
  products_wrote {m} l s = writing_end (in_phase k j a b net q) before (writing_as (in_phase k j a b net q) before (products-end test a b net m l) s)

-- A run, phase after phase, from the buffer's beginning on.
module _ (k : Kind) (j a b : ℕ) (net : Network) where
  abbrev phase' : ℕ → List Wire
  phase' = in_phase k j a b net

  pub phase_lengths : length (numbers (pulse k j a b net)) ≡ length (numbers (phase' 0)) + (length (numbers (phase' 1)) + length (numbers (phase' 2)))
  phase_lengths = append-length (phase' 0) (phase' 1 ++ phase' 2) ∙ ap (λ (x : ℕ). length (numbers (phase' 0)) + x) (append-length (phase' 1) (phase' 2))

  -- The third phase after the first two.
  pub run_written : {before late after : List ℕ} (x y : ℕ) {z : ℕ} → Put before (numbers (phase' 0) ++ numbers (phase' 1)) late (x + y)
      → {last : List ℕ} → Put (take (length late - (x + y)) (drop (x + y) late)) (numbers (phase' 2)) last z → after ≡ put_mid (x + y) (length late - (x + y)) late last
      → Written (pulse k j a b net) before after ((x + y + z) / 2)
  run_written {before} {after = after} x y {z} two r d =
      let w : Put before (numbers (pulse k j a b net)) after (x + y + z) =
      rw (d, numbers-append (phase' 0) (phase' 1 ++ phase' 2), numbers-append (phase' 1) (phase' 2), ← append_assoc (numbers (phase' 0)) (numbers (phase' 1)) (numbers (phase' 2))) (put_then two r) in
      let l = numbers-length (pulse k j a b net) in
      record { counted = omega (arith, w.counted, l); buffer = w.is ∙ rw l }
