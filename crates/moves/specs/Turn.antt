-- The points of a set by where a move further leads.
use Rattle.std.specs.Prelude.{Bool, not, ◌&&◌, ℕ}
use Rattle.moves.specs.Further.{further_in}

-- The point is in the first set, and some move further leads into the second.
abbrev pub turns : ℕ → (ℕ → Bool) → (ℕ → Bool) → ℕ → ℕ → ℕ → Bool
turns n from to a b x = from x && further_in n to a b x

-- The point is in the set, and no move further leads into the set.
abbrev pub lasts : ℕ → (ℕ → Bool) → ℕ → ℕ → ℕ → Bool
lasts n set s e x = set x && not (further_in n set s e x)
