-- The definitions' kinds, for the code's, and by the planes.
use Rattle.std.specs.Prelude.{cond, List, ℕ, ◌+◌, ◌*◌}
use Rattle.hazard.specs.Transition as spec
use Rattle.cube.specs.PointSet.{in_set}
use Rattle.kinds.specs.declared.kind.Kind.{Kind}
use Rattle.kinds.specs.declared.kind.Kind.TheVariants.{Low, Rise, Fall, High}

abbrev pub kind_is : Kind → spec.Kind
kind_is Low = spec.low
kind_is Rise = spec.rise
kind_is Fall = spec.fall
kind_is High = spec.high

-- 1 where the point is in the set of the ones, and 0 elsewhere.
abbrev pub one_at : List ℕ → ℕ → ℕ
one_at ones x = cond (in_set ones x) 1 0

-- The kind of the transition from a to b, where both have a value.
abbrev pub kind_in : List ℕ → ℕ → ℕ → spec.Kind
kind_in ones a b = spec.kind_of (2 * one_at ones a + one_at ones b)
