-- The invariant of the forward choice: products come until every required cube lies in one. What else holds of a product is P.
use mathlib.Core.Path.{◌≡◌, sym, ap, ◌∙◌}
use mathlib.Core.Bool.{Bool, false, not, cond, ◌&&◌, ◌||◌}
use mathlib.Core.Logic.{◌⊎◌, inl, inr}
use mathlib.Core.List.{List, [], ◌∷◌, ◌++◌, map-append}
use Rattle.std.specs.Prelude.{Some}
use Prim.Native.Nat.{ℕ, ◌+◌, ◌*◌, ◌≤◌, ◌<◌}
use native.Mathlib.Numerals.{add-one}
use native.Mathlib.Omega.{arith}
use native.Mathlib.Decide.{ℕ_discrete}
use lib.Dec.{T}
use lib.ListN.{length, get_or, take, set, replicate, length-set, length-take, length-map}
use lib.Seq.{take-suc-set, get_or-set_same, get_or-set_other, length-take-le}
use Rattle.hazard.specs.Limits.{most_required}
use Rattle.hazard.specs.Cube.{inside}
use Rattle.hazard.specs.Cover.{Network, covered}
use Rattle.hazard.proofs.Test.{is, isnt, known, or_e}
use Rattle.hazard.proofs.Choice.{covered-append_l, covered-snoc}
use Rattle.cube.specs.Entry.{cube_in, network_in}
use Rattle.cube.specs.PointSet.{in_set}
use Rattle.flags.specs.Flag.{Flagged, Unflagged, Flagging}
use Rattle.flags.proofs.Flags.{flagged_start, taken_is, flag_is}
use Rattle.choice.specs.First.{first_in}
use Rattle.choice.specs.Keep.{Noted}
use Rattle.choice.proofs.Firsts.{first-before, first_new, covered_last}

pub record Choosing (P : ℕ → Type 0) (n : ℕ) (required firsts products : List ℕ) (flags : List Bool) (m i : ℕ) : Type 0 where
  pub few : m ≤ i
  pub low : i ≤ length required
  pub many : length required ≤ most_required
  pub whole : length firsts ≡ length required
  pub room : length required ≤ length products
  pub good : (k : ℕ) → k < m → P (get_or products k 0)
  -- A flag is set exactly if its required cube lies in a product chosen so far,
  pub flagged : Flagged n required flags (network_in n (take m products))
  -- and then the first of these is noted.
  pub each : (k : ℕ) → k < length required → T (get_or flags k false) → first_in (network_in n (take m products)) (cube_in n (get_or required k 0)) ≡ Some (get_or firsts k 0)
  pub covers : (k : ℕ) → k < i → T (covered (network_in n (take m products)) (cube_in n (get_or required k 0)))

pub choosing_start : (P : ℕ → Type 0) (n : ℕ) (required firsts products : List ℕ) → length required ≤ most_required → length firsts ≡ length required → length required ≤ length products
    → Choosing P n required firsts products (replicate most_required false) 0 0
choosing_start P n required firsts products a b c =
    record {
      few = omega arith;
      low = omega arith;
      many = a;
      whole = b;
      room = c;
      good = λ k l. absurd (omega arith);
      flagged = flagged_start n required most_required;
      each = λ k l t. absurd (rw (flagged_start n required most_required k l) at t);
      covers = λ k l. absurd (omega arith);
    }

module _ {P : ℕ → Type 0} {n : ℕ} {required firsts products : List ℕ} {flags : List Bool} {m i : ℕ} (s : Choosing P n required firsts products flags m i) (l : i < length required) where
  -- The required cube lies in a product already.
  pub choosing_skip : T (get_or flags i false) → Choosing P n required firsts products flags m (i + 1)
  choosing_skip t =
      record {
        few = omega (arith, s.few);
        low = omega arith;
        many = s.many;
        whole = s.whole;
        room = s.room;
        good = s.good;
        flagged = s.flagged;
        each = s.each;
        covers = λ k h. elim (ℕ_discrete k i) [ yes e ↦ rw (e, ← s.flagged i l) t | no e ↦ s.covers k (omega arith) ];
      }

  -- A product comes for it: the required cubes in it are flagged, and it is noted for those of them that were not.
  pub choosing_add : (p : ℕ) → P p → T (inside (cube_in n (get_or required i 0)) (cube_in n p)) → {test : ℕ → Bool} {before after taken : List ℕ} {flags' : List Bool}
      → Flagging test before after taken flags flags' → Unflagged (length required) flags before → length required ≤ 64 * length before
      → ((k : ℕ) → k < length required → test k ≡ inside (cube_in n (get_or required k 0)) (cube_in n p))
      → {firsts' : List ℕ} → ((k : ℕ) → get_or firsts' k 0 ≡ cond (in_set taken k) m (get_or firsts k 0)) → length firsts' ≡ length firsts
      → Choosing P n required firsts' (set products m p) flags' (m + 1) (i + 1)
  choosing_add p g t {test} {before} {after} {taken} {flags'} f u wide tested {firsts'} h w =
      record {
        few = omega (arith, s.few);
        low = omega arith;
        many = s.many;
        whole = w ∙ s.whole;
        room = simp length-set s.room;
        good = λ k a. elim (ℕ_discrete k m) [ yes e ↦ rw (e, get_or-set_same products m p 0 room') g | no e ↦ rw (get_or-set_other products m k p 0 e) (s.good k (omega arith)) ];
        flagged = λ k a. flag k a ∙ ap (λ (b : Bool). inside (cube_in n (get_or required k 0)) (cube_in n p) || b) (s.flagged k a) ∙ rw next (sym (covered_last net (cube_in n p) (cube_in n (get_or required k 0))));
        each = λ k a v. rw next (noted k a (rw (flag k a) at v) (known (get_or flags k false)));
        covers = λ k a. rw next (elim (ℕ_discrete k i) [
          | yes e ↦ rw e (covered-snoc net (cube_in n p) (cube_in n (get_or required i 0)) t)
          | no e ↦ covered-append_l net (cube_in n p ∷ []) (cube_in n (get_or required k 0)) (s.covers k (omega arith))
        ]);
      }
    where
      net : Network
      net = network_in n (take m products)

      room' : m < length products
      room' = omega (arith, s.few, s.room)

      size : length net ≡ m
      size = length-map (take m products) (cube_in n) ∙ length-take-le m products (omega (arith, room'))

      grown : take (m + 1) (set products m p) ≡ take m products ++ (p ∷ [])
      grown = rw add-one (take-suc-set products m p room')

      next : network_in n (take (m + 1) (set products m p)) ≡ net ++ (cube_in n p ∷ [])
      next = ap (network_in n) grown ∙ map-append (cube_in n) (take m products) (p ∷ [])

      flag : (k : ℕ) → k < length required → get_or flags' k false ≡ (inside (cube_in n (get_or required k 0)) (cube_in n p) || get_or flags k false)
      flag k a = flag_is f u wide k a ∙ ap (λ (b : Bool). b || get_or flags k false) (tested k a)

      -- It is noted where it is taken: where the flag was not set, and the required cube lies in it.
      note : (k : ℕ) → k < length required → get_or firsts' k 0 ≡ cond (not (get_or flags k false) && inside (cube_in n (get_or required k 0)) (cube_in n p)) m (get_or firsts k 0)
      note k a = h k ∙ ap (λ (b : Bool). cond b m (get_or firsts k 0)) (taken_is f u wide k a ∙ ap (λ (b : Bool). not (get_or flags k false) && b) (tested k a))

      noted : (k : ℕ) → k < length required → T (inside (cube_in n (get_or required k 0)) (cube_in n p) || get_or flags k false) → T (get_or flags k false) ⊎ (¬ T (get_or flags k false))
          → first_in (net ++ (cube_in n p ∷ [])) (cube_in n (get_or required k 0)) ≡ Some (get_or firsts' k 0)
      noted k a v (inl o) = first-before net (cube_in n p) (cube_in n (get_or required k 0)) (s.each k a o) ∙ ap Some (sym (note k a ∙ rw (is {b = get_or flags k false} o)))
      noted k a v (inr o) =
          let q = isnt (get_or flags k false) o in
          let d : T (inside (cube_in n (get_or required k 0)) (cube_in n p)) = elim (or_e (inside (cube_in n (get_or required k 0)) (cube_in n p)) (get_or flags k false) v) [ inl x ↦ x | inr x ↦ absurd (o x) ] in
          first_new net (cube_in n p) (cube_in n (get_or required k 0)) (λ c. o (rw (s.flagged k a) c)) d
          ∙ ap Some (size ∙ sym (note k a ∙ rw (q, is {b = inside (cube_in n (get_or required k 0)) (cube_in n p)} d)))

-- At the end every required cube has its first product noted.
pub choosing_end : {P : ℕ → Type 0} {n : ℕ} {required firsts products : List ℕ} {flags : List Bool} {m i : ℕ} → Choosing P n required firsts products flags m i → length required ≤ i → Noted n required firsts (take m products)
choosing_end {products = products} {m = m} s h =
    record {
      each = λ k a. s.each k a (rw (s.flagged k a) (s.covers k (omega (arith, s.low))));
      whole = s.whole;
      many = s.many;
      few = omega (arith, s.few, s.low, length-take m products);
    }
