-- Packed words as required cubes.
use mathlib.Core.Path.{◌≡◌, ap, ap₂, ◌∙◌}
use Prim.Native.Nat.{ℕ}
use Rattle.hazard.specs.Cube as digits
use Rattle.hazard.specs.Sets.{Required}
use Rattle.cube.specs.declared.mask.Cube.{Cube}
use Rattle.cube.specs.Mask.{Stands}
use Rattle.cube.specs.Entry.{required_in, Packed}
use Rattle.cube.proofs.Word.{packed_is}

-- The entry that a packed word is.
module _ {n w t x : ℕ} {c : Cube} {ds : digits.Cube} (p : Packed w t x c.care c.value) (s : Stands n c ds) where
  pub word-required : ◌≡◌ {A = Required} (required_in n w) (record { transition = t; label = x; cube = ds })
  word-required =
      ap (λ (k : ℕ). record { transition = k; label = (required_in n w).label; cube = (required_in n w).cube }) p.transition'
      ∙ ap₂ (λ (y : ℕ) (d : digits.Cube). record { transition = t; label = y; cube = d }) p.point' (packed_is p s)
