-- The cube of a packed word.
use mathlib.Core.Path.{◌≡◌, refl, ap₂, ◌∙◌}
use mathlib.Core.List.{List}
use Prim.Native.Nat.{ℕ, ◌<◌, ◌^◌}
use native.Mathlib.Decide.{dec_lt}
use native.Mathlib.Omega.{arith}
use lib.Pow.{pow_pos}
use lib.ListN.{get_or, take, length-take, get_or-eq_default}
use lib.Seq.{get_or-take}
use Rattle.hazard.specs.Cube as digits
use Rattle.cube.specs.Mask.{digits_of, Stands}
use Rattle.cube.specs.Entry.{care_in, value_in, cube_in, Packed, CleanWord}
use Rattle.cube.specs.declared.mask.Cube.{Cube}

pub stands_in : {n w : ℕ} {c : Cube} → CleanWord n w → (c.care ≡ care_in w) × (c.value ≡ value_in w) → Stands n c (cube_in n w)
stands_in h (p, q) = record { fits = record { small = rw p h.small; clean = rw (p, q) h.clean }; is = rw (p, q) }

-- A packed cube stands for its digits.
pub packed_is : {n w t x : ℕ} {c : Cube} {ds : digits.Cube} → Packed w t x c.care c.value → Stands n c ds → cube_in n w ≡ ds
packed_is {n} p s = ap₂ (digits_of n) p.care' p.value' ∙ s.is

pub packed_clean : {n w t x : ℕ} {c : Cube} {ds : digits.Cube} → Packed w t x c.care c.value → Stands n c ds → x < 2 ^ n → CleanWord n w
packed_clean p s h = record { small = rw p.care' s.fits.small; clean = rw (p.value', p.care') s.fits.clean; point = rw p.point' h }

-- The word 0 has the cube without literals, and so has what is read past an array's end.
pub zero-clean : (n : ℕ) → CleanWord n 0
zero-clean n = record { small = pow_pos n; clean = refl; point = pow_pos n }

pub taken-clean : (n m : ℕ) (ws : List ℕ) → ((k : ℕ) → k < m → CleanWord n (get_or ws k 0)) → (k : ℕ) → CleanWord n (get_or (take m ws) k 0)
taken-clean n m ws h k =
    elim (dec_lt k m) [
      | yes l ↦ rw (get_or-take m ws k 0 l) (h k l)
      | no g ↦ rw (get_or-eq_default (take m ws) 0 {n = k} (omega (arith, length-take m ws, g))) (zero-clean n)
    ]
