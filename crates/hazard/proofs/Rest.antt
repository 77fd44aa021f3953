-- Differences at rest: where a product contains a 0, and where a required cube is uncovered.
use mathlib.Core.Path.{◌≡◌}
use mathlib.Core.List.{List}
use Prim.Native.Nat.{ℕ, ◌<◌}
use lib.Dec.{T, eqb→eq}
use lib.ListN.{length}
use Rattle.hazard.specs.Cube.{has, span}
use Rattle.hazard.specs.Transition.{value, off}
use Rattle.hazard.specs.Cover.{Network, product_at, gives, covered}
use Rattle.hazard.specs.Shown.{AtRest}
use Rattle.hazard.proofs.Test.{is, isnt}
use Rattle.hazard.proofs.Network.{Products, gives_e, gives_i, covered_joint}

-- (a) fails: a product contains a 0.
pub zero_at_rest : (f : List ℕ) (net : Network) (j x : ℕ) → j < length net → T (has (product_at net j) x) → T (off f x) → AtRest f net x 0
zero_at_rest f net j x l t o = record { table = eqb→eq (value f x) 0 o; network = is (gives_i net x j l t) }

-- (b) fails at [s,x], and every product that contains x contains s: the network gives 0 at x.
pub one_at_rest : (n : ℕ) (f : List ℕ) (net : Network) → Products n net → (s x : ℕ) → ((j : ℕ) → j < length net → T (has (product_at net j) x) → T (has (product_at net j) s))
    → ¬ T (covered net (span n s x)) → value f x ≡ 1 → AtRest f net x 1
one_at_rest n f net good s x back u v =
    record { table = v; network = isnt (gives net x) (λ t. let (j, l, h) = gives_e net x t in u ((covered_joint n net good s x).1 (j, l, back j l h, h))) }

-- So at a 1 whose own cube no product contains.
pub point_at_rest : (n : ℕ) (f : List ℕ) (net : Network) → Products n net → (x : ℕ) → ¬ T (covered net (span n x x)) → value f x ≡ 1 → AtRest f net x 1
point_at_rest n f net good x = one_at_rest n f net good x x (λ j l t. t)
