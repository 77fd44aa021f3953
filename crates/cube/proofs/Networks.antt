-- The network that words stand for, word by word.
use mathlib.Core.Path.{◌≡◌, refl, ap, ◌∙◌}
use mathlib.Core.List.{List, [], ◌∷◌, ◌++◌, map-append}
use Prim.Native.Nat.{ℕ, zero, suc, ◌<◌}
use native.Mathlib.Nat.{not-suc-le-zero, le_of_suc-le-suc}
use lib.ListN.{length, get_or, take}
use lib.Seq.{take-suc}
use Rattle.hazard.specs.Cover.{product_at}
use Rattle.cube.specs.Entry.{cube_in, network_in}

pub product_in : (n : ℕ) (ws : List ℕ) (j : ℕ) → j < length ws → product_at (network_in n ws) j ≡ cube_in n (get_or ws j 0)
product_in n [] j h = absurd (not-suc-le-zero h)
product_in n (w ∷ ws) zero h = refl
product_in n (w ∷ ws) (suc j) h = product_in n ws j (le_of_suc-le-suc h)

-- The products up to j, and product j.
pub network-suc : (n : ℕ) (ws : List ℕ) (j : ℕ) → j < length ws → network_in n (take (suc j) ws) ≡ network_in n (take j ws) ++ (cube_in n (get_or ws j 0) ∷ [])
network-suc n ws j h = ap (network_in n) (take-suc ws j 0 h) ∙ map-append (cube_in n) (take j ws) (get_or ws j 0 ∷ [])
