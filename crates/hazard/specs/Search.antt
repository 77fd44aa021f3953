-- Searches. Every "lowest", "first" and "in order" of the other definitions is one of these.
use Rattle.std.specs.Prelude.{Bool, true, false, List, [], ◌∷◌, ℕ, zero, suc, Option, None, Some}

-- Something was found.
abbrev pub found : {A : Type 0} → Option A → Bool
found None = false
found (Some a) = true

-- The lowest number that passes the test, of the count numbers from `from` on.
abbrev pub first : (ℕ → Bool) → ℕ → ℕ → Option ℕ
first test from zero = None
first test from (suc count) = elim (test from) [ true ↦ Some from | false ↦ first test (suc from) count ]

-- All the numbers of that range that pass the test, ascending.
abbrev pub those : (ℕ → Bool) → ℕ → ℕ → List ℕ
those test from zero = []
those test from (suc count) = elim (test from) [ true ↦ from ∷ those test (suc from) count | false ↦ those test (suc from) count ]

-- The lowest number of that range at which the look finds something, with what it finds there.
abbrev pub first_place : (ℕ → Option ℕ) → ℕ → ℕ → Option (ℕ × ℕ)
first_place look from zero = None
first_place look from (suc count) = elim (look from) [ Some x ↦ Some (from, x) | None ↦ first_place look (suc from) count ]

-- The first entry of a list that passes the test.
abbrev pub find : {A : Type 0} → (A → Bool) → List A → Option A
find test [] = None
find test (a ∷ l) = elim (test a) [ true ↦ Some a | false ↦ find test l ]

-- The first thing that a list of searches found.
abbrev pub first_of : {A : Type 0} → List (Option A) → Option A
first_of [] = None
first_of (o ∷ l) = elim o [ Some a ↦ Some a | None ↦ first_of l ]
