-- The forward choice, turn by turn: a required cube that lies in a product does not block.
use mathlib.Core.Path.{◌≡◌, refl, sym, ◌∙◌}
use mathlib.Core.Bool.{Bool}
use mathlib.Core.List.{List, map}
use Rattle.std.specs.Prelude.{Option, None, Some}
use Prim.Native.Nat.{ℕ, ◌+◌, ◌≤◌, ◌<◌}
use native.Mathlib.Omega.{arith}
use lib.Dec.{T}
use lib.ListN.{length, get_or, take, length-take, length-map}
use lib.Seq.{get_or-take}
use Rattle.hazard.specs.Search.{first_of}
use Rattle.hazard.specs.Cube.{Cube, inside}
use Rattle.hazard.specs.Growth.{Growth, Legal, Blocked, grow}
use Rattle.hazard.specs.Implicant.{DhfPrime}
use Rattle.hazard.specs.Refusal.{Refusal}
use Rattle.hazard.specs.Minimal.{blocked_by, block_check}
use Rattle.hazard.proofs.Cube.{inside→}
use Rattle.hazard.proofs.Implicant.{prime-is}
use Rattle.hazard.proofs.Growth.{Ends, grow_ends, blocked_none}
use Rattle.hazard.proofs.Network.{covered_e}
use Rattle.cube.specs.Entry.{required_in, cube_in, network_in}
use Rattle.cube.proofs.Left.{Left, left-start, left_end, check_hit, check_miss}
use Rattle.context.specs.declared.context.Context.{Context}
use Rattle.context.specs.Context.{off_in}
use Rattle.cube.proofs.Networks.{product_in}
use Rattle.cube.proofs.Digits.{masks_digits}
use Rattle.choice.proofs.Choosing.{Choosing, choosing_end}
use Rattle.selection.specs.Choose.{blocking_of, PrimeWord, Chosen}
use Rattle.selection.proofs.Products.{vs, wide}

module _ (context : Context) where
  abbrev n : ℕ
  n = context.n.count

  abbrev check : ℕ → Option Refusal
  check w = block_check n (off_in context) (vs context) (required_in n w)

  -- Growth ends legal inside a dhf-prime.
  legal_in : (w : ℕ) (p : Cube) → DhfPrime n (off_in context) (vs context) p → T (inside (cube_in n w) p) → check w ≡ None
  legal_in w p d t = go (grow n (off_in context) (vs context) (cube_in n w)) (grow_ends n (off_in context) (vs context) (wide context) (masks_digits n _ _))
    where
      go : (g : Growth) → Ends n (off_in context) (vs context) (cube_in n w) g → blocked_by (required_in n w) g ≡ None
      go (Legal c s) e = refl
      go (Blocked z s) e =
          absurd (blocked_none n (off_in context) (vs context) (wide context) e p ((prime-is n (off_in context) (vs context) (wide context) p).0 d).dhf (inside→ (cube_in n w) p t))

  -- Products are chosen for the first i required cubes, and none of these blocks.
  pub record Turn (required firsts products : List ℕ) (flags : List Bool) (m i : ℕ) : Type 0 where
    pub choosing : Choosing (PrimeWord n (off_in context) (vs context)) n required firsts products flags m i
    pub rest : Left (λ l. first_of (map (block_check n (off_in context) (vs context)) (map (required_in n) l))) required i

  pub turn-start : {required firsts products : List ℕ} {flags : List Bool} → Choosing (PrimeWord n (off_in context) (vs context)) n required firsts products flags 0 0 → Turn required firsts products flags 0 0
  turn-start h = record { choosing = h; rest = left-start }

  covered-legal : {required firsts products : List ℕ} {flags : List Bool} {m i : ℕ} → Choosing (PrimeWord n (off_in context) (vs context)) n required firsts products flags m i → (k : ℕ) → k < i → check (get_or required k 0) ≡ None
  covered-legal {required} {firsts} {products} {flags} {m} s k l =
      let (j, h, t) = covered_e (network_in n (take m products)) (cube_in n (get_or required k 0)) (s.covers k l) in
      let a : j < length (take m products) = omega (arith, h, length-map (take m products) (cube_in n)) in
      let b : j < m = omega (arith, a, length-take m products) in
      legal_in (get_or required k 0) (cube_in n (get_or products j 0)) (s.good j b).prime (rw (product_in n (take m products) j a, get_or-take m products j 0 b) at t)

  pub turn_next : {required firsts firsts' products products' : List ℕ} {flags flags' : List Bool} {m m' i : ℕ} → Turn required firsts products flags m i → i < length required
      → Choosing (PrimeWord n (off_in context) (vs context)) n required firsts' products' flags' m' (i + 1) → Turn required firsts' products' flags' m' (i + 1)
  turn_next {i = i} s l h = record { choosing = h; rest = check_miss (block_check n (off_in context) (vs context)) (required_in n) s.rest l (covered-legal h i (omega arith)) }

  pub turn_blocked : {required firsts products : List ℕ} {flags : List Bool} {m i : ℕ} {q : Refusal} → Turn required firsts products flags m i → i < length required → check (get_or required i 0) ≡ Some q
      → blocking_of n (off_in context) (vs context) (map (required_in n) required) ≡ Some q
  turn_blocked s l e = sym (check_hit (block_check n (off_in context) (vs context)) (required_in n) s.rest l e) ∙ e

  pub turn_end : {required firsts products : List ℕ} {flags : List Bool} {m i : ℕ} → Turn required firsts products flags m i → length required ≤ i
      → (blocking_of n (off_in context) (vs context) (map (required_in n) required) ≡ None) × Chosen n (off_in context) (vs context) required firsts products m
  turn_end s h = (
    sym (left_end s.rest h),
    record { noted = choosing_end s.choosing h; low = omega (arith, s.choosing.few, s.choosing.low, s.choosing.room); good = s.choosing.good },
  )
