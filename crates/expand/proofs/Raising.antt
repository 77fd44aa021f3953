-- The loop that raises a cube's literals.
use mathlib.Core.Path.{◌≡◌, ap, ◌∙◌}
use mathlib.Core.Logic.{◌≢◌}
use mathlib.Core.Bool.{Bool, true, false, cond}
use mathlib.Core.List.{List}
use Prim.Native.Nat.{ℕ, suc, ◌+◌, ◌-◌, ◌≤◌, ◌<◌}
use native.Mathlib.Nat.{sub-zero, sub-eq-zero_of_le}
use native.Mathlib.Numerals.{add-one}
use native.Mathlib.Omega.{arith}
use lib.Dec.{eqb}
use lib.ListN.{get_or}
use borrow.Author.Tests.{ne_eqb}
use Rattle.std.specs.Prelude.{None}
use Rattle.hazard.specs.Cube.{Cube, bit}
use Rattle.hazard.proofs.Point.{bit-lt}
use Rattle.cube.specs.Mask.{digits_of}
use Rattle.cube.proofs.Digits.{digit_at_lem}
use Rattle.hazard.specs.Sets.{Privileged}
use Rattle.hazard.specs.Implicant.{lowest_zero}
use Rattle.hazard.specs.Expansion.{raise, expand_from, expand}
use Rattle.hazard.proofs.Cube.{Digits}
use Rattle.hazard.proofs.Implicant.{Wide}
use Rattle.hazard.proofs.Expansion.{raise_clean}

module _ (n : ℕ) (off : ℕ → Bool) (vs : List Privileged) where
  -- The whole answer q is what raising gives from the cube p, input i on; and p has no zero.
  pub record Raising (p : Cube) (i : ℕ) (q : Cube) : Type 0 where
    pub low : i ≤ n
    pub zeros : lowest_zero n off p ≡ None
    pub rest : q ≡ expand_from n off vs i (n - i) p

  pub raising_start : (p : Cube) → lowest_zero n off p ≡ None → Raising p 0 (expand n off vs p)
  raising_start p e = record { low = omega arith; zeros = e; rest = rw sub-zero }

module _ {n : ℕ} {off : ℕ → Bool} {vs : List Privileged} {p q : Cube} {i : ℕ} (r : Raising n off vs p i q) where
  pub raising_step : Wide n vs → Digits n p → i < n → Raising n off vs (raise n off vs p i) (i + 1) q
  raising_step wide w h =
      let e : n - i ≡ suc (n - (i + 1)) = omega arith in
      record { low = omega arith; zeros = raise_clean n off vs wide p i w r.zeros; rest = rw (r.rest, e, add-one) }

  pub raising_end : n ≤ i → p ≡ q
  raising_end h = rw (r.rest, sub-eq-zero_of_le h)

-- Whether input i has a literal.
pub absent_digit : (n care value i : ℕ) → i < n → bit care i ≡ 0 → eqb (get_or (digits_of n care value) i 0) 2 ≡ true
absent_digit n care value i l e = ap (λ (d : ℕ). eqb d 2) (digit_at_lem n care value i l ∙ ap (λ (b : ℕ). cond (eqb b 0) 2 (bit value i)) e)

pub literal_digit : (n care value i : ℕ) → i < n → bit care i ≢ 0 → eqb (get_or (digits_of n care value) i 0) 2 ≡ false
literal_digit n care value i l ne =
    ap (λ (d : ℕ). eqb d 2) (digit_at_lem n care value i l ∙ ap (λ (b : Bool). cond b 2 (bit value i)) (ne_eqb (bit care i) 0 ne))
    ∙ ne_eqb (bit value i) 2 (λ e. omega (arith, e, bit-lt value i))
