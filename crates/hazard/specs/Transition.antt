-- The table, and the transitions (document 01: changes) with their four kinds.
use Rattle.std.specs.Prelude.{Bool, true, false, not, ◌&&◌, List, ℕ, ◌+◌, ◌-◌, ◌*◌, ◌/◌, ◌^◌, eqb, length, get_or, Option}
use Rattle.hazard.specs.Search.{found, first}
use Rattle.hazard.specs.Cube.{bit, flip, has, span}

-- The table's value at a point: 0, 1, or 2 for don't care.
abbrev pub value : List ℕ → ℕ → ℕ
value f x = get_or f x 2

-- The point is in the OFF-set.
abbrev pub off : List ℕ → ℕ → Bool
off f x = eqb (value f x) 0

-- Where transition k starts: the list holds two numbers for each transition.
abbrev pub start : List ℕ → ℕ → ℕ
start ts k = get_or ts (2 * k) 0

-- Where transition k ends.
abbrev pub end : List ℕ → ℕ → ℕ
end ts k = get_or ts (2 * k + 1) 0

-- How many transitions the list holds.
abbrev pub count : List ℕ → ℕ
count ts = length ts / 2

-- Transition k visits the point x: x lies in its [A,B].
abbrev pub visits : ℕ → List ℕ → ℕ → ℕ → Bool
visits n ts k x = has (span n (start ts k) (end ts k)) x

-- Some transition visits the point.
abbrev pub visited : ℕ → List ℕ → ℕ → Bool
visited n ts x = found (first (λ k. visits n ts k x) 0 (count ts))

-- 0 to 0 (static low), 0 to 1 (rise), 1 to 0 (fall), 1 to 1 (static high).
pub data Kind : Type 0 where
  low rise fall high : Kind

-- The kind, from the two end values coded as the number 2 f(A) + f(B).
abbrev pub kind_of : ℕ → Kind
kind_of c = elim (eqb c 0) [ true ↦ low | false ↦ elim (eqb c 1) [ true ↦ rise | false ↦ elim (eqb c 2) [ true ↦ fall | false ↦ high ] ] ]

-- The kind of the transition from a to b.
abbrev pub kind : List ℕ → ℕ → ℕ → Kind
kind f a b = kind_of (2 * value f a + value f b)

-- Input i may still move: a and b differ there, and x has a's value.
abbrev pub movable : ℕ → ℕ → ℕ → ℕ → Bool
movable a b x i = not (eqb (bit a i) (bit b i)) && eqb (bit x i) (bit a i)

-- Some point one move further from x, on the way from a to b, has the value v.
abbrev pub further : ℕ → List ℕ → ℕ → ℕ → ℕ → ℕ → Bool
further n f a b x v = found (first (λ i. movable a b x i && eqb (value f (flip x i)) v) 0 n)

-- x shows a dynamic function hazard (Definition 2.5): it has the value v of the transition's end, and a move further gives the other value.
abbrev pub dynamic_hazard : ℕ → List ℕ → ℕ → ℕ → ℕ → ℕ → Bool
dynamic_hazard n f a b v x = eqb (value f x) v && further n f a b x (1 - v)

-- x shows a function hazard, so that the kind's rule is broken: the wrong value (static), or the point before the wrong move (dynamic).
abbrev pub function_hazard : ℕ → List ℕ → Kind → ℕ → ℕ → ℕ → Bool
function_hazard n f low a b x = eqb (value f x) 1
function_hazard n f rise a b x = dynamic_hazard n f a b 1 x
function_hazard n f fall a b x = dynamic_hazard n f a b 0 x
function_hazard n f high a b x = eqb (value f x) 0

-- The lowest point of [A,B] that shows a function hazard: no such point, if f is free of them there.
abbrev pub function_hazard_at : ℕ → List ℕ → ℕ → ℕ → Option ℕ
function_hazard_at n f a b = first (λ x. has (span n a b) x && function_hazard n f (kind f a b) a b x) 0 (2 ^ n)

-- The lowest point of [A,B] that is don't care.
abbrev pub undefined_at : ℕ → List ℕ → ℕ → ℕ → Option ℕ
undefined_at n f a b = first (λ x. has (span n a b) x && eqb (value f x) 2) 0 (2 ^ n)
