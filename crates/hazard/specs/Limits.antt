-- The limits that can be moved, each in one place. What is at most 10, 64 or 4,096 is fixed, and stands as a number.
use Rattle.std.specs.Prelude.{ℕ, ◌*◌}

-- The most inputs that a transition moves.
abbrev pub most_moving : ℕ
most_moving = 5

-- The most required cubes of a problem.
abbrev pub most_required : ℕ
most_required = 3072

-- The bytes of the longest network that is made: ten inputs for each required cube.
abbrev pub most_cover : ℕ
most_cover = 10 * most_required

-- The most products of a network that is verified.
abbrev pub most_products : ℕ
most_products = 3072

-- The most wires of a run: ten inputs for each product.
abbrev pub most_wires : ℕ
most_wires = 10 * most_products
