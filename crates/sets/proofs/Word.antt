-- Packed words as privileged cubes.
use mathlib.Core.Path.{◌≡◌, ap, ap₂, ◌∙◌}
use Prim.Native.Nat.{ℕ}
use Rattle.hazard.specs.Cube as digits
use Rattle.hazard.specs.Sets.{Privileged}
use Rattle.cube.specs.declared.mask.Cube.{Cube}
use Rattle.cube.specs.Mask.{Stands}
use Rattle.cube.specs.Entry.{required_in, privileged_in, Packed}
use Rattle.cube.proofs.Word.{packed_is}

-- The entry that a packed word is.
module _ {n w t x : ℕ} {c : Cube} {ds : digits.Cube} (p : Packed w t x c.care c.value) (s : Stands n c ds) where
  pub word-privileged : ◌≡◌ {A = Privileged} (privileged_in n w) (record { transition = t; cube = ds; start = x })
  word-privileged =
      ap (λ (k : ℕ). record { transition = k; cube = (required_in n w).cube; start = (required_in n w).label }) p.transition'
      ∙ ap₂ (λ (y : ℕ) (d : digits.Cube). record { transition = t; cube = d; start = y }) p.point' (packed_is p s)
