-- A network's words, one look after the other.
use mathlib.Core.Path.{◌≡◌, sym, ◌∙◌}
use mathlib.Core.List.{List}
use Prim.Native.Nat.{ℕ, ◌<◌}
use lib.ListN.{length, get_or}
use Rattle.hazard.specs.Cover.{product_at}
use Rattle.cube.specs.Mask.{cube_of, Stands}
use Rattle.cube.specs.Entry.{cube_in, network_in}
use Rattle.cube.specs.declared.mask.Cube.{Cube}
use Rattle.cube.proofs.Networks.{product_in}

-- The masks read from word j stand for product j.
pub product_read : (n : ℕ) (ws : List ℕ) (j : ℕ) {c : Cube} → j < length ws → Stands n c (cube_in n (get_or ws j 0)) → cube_of n c ≡ product_at (network_in n ws) j
product_read n ws j h s = s.is ∙ sym (product_in n ws j h)
