-- The points that the transitions visit, one transition after another, and the 1s that are left.
use mathlib.Core.Path.{◌≡◌, refl, sym, ap, ap₂, ◌∙◌}
use mathlib.Core.Bool.{Bool, true, false, not, ◌||◌, ◌&&◌, and-true, or-false}
use mathlib.Core.List.{List, map}
use Prim.Native.Nat.{ℕ, ◌+◌, ◌^◌, ◌<◌}
use native.Mathlib.Nat.{zero-add}
use native.Mathlib.Numerals.{add-one}
use native.Mathlib.Omega.{arith}
use lib.Dec.{ltb}
use lib.Pow.{pow_mono}
use borrow.Author.Tests.{lt-ltb}
use Rattle.hazard.specs.Search.{found, first}
use Rattle.hazard.specs.Cube as digits
use Rattle.hazard.specs.Cube.{bit, has, span}
use Rattle.hazard.specs.Transition.{start, end, count, visits, visited}
use Rattle.hazard.specs.Sets.{Required, unvisited, single_points, of_points}
use Rattle.hazard.proofs.Search.{any_more}
use Rattle.cube.specs.PointSet.{in_set}
use Rattle.points.specs.Union.{Joined}
use Rattle.points.proofs.Members.{those-same}
use Rattle.context.specs.declared.planes.Planes.{Planes}
use Rattle.context.specs.Context.{table_in}
use Rattle.context.proofs.Values.{plane_ones, table-length}
use Rattle.context.proofs.PlaneWord.{plane_in}

-- The first t transitions visit the point.
abbrev pub visited_by : ℕ → List ℕ → ℕ → ℕ → Bool
visited_by n ts t x = found (first (λ k. visits n ts k x) 0 t)

-- The set before, and the points that the first t transitions visit.
abbrev pub Visiting : ℕ → List ℕ → ℕ → List ℕ → List ℕ → Type 0
Visiting n ts t before after = Joined (λ x. visited_by n ts t x && ltb x (2 ^ n)) before after

pub visiting_start : (n : ℕ) (ts set : List ℕ) → Visiting n ts 0 set set
visiting_start n ts set = record { long = refl; is = λ x l. sym (or-false (in_set set x)) }

pub visiting_more : (n : ℕ) (ts : List ℕ) (t : ℕ) {before set after : List ℕ} → Visiting n ts t before set → {c : digits.Cube} → c ≡ span n (start ts t) (end ts t)
    → Joined (λ x. has c x && ltb x (2 ^ n)) set after → Visiting n ts (t + 1) before after
visiting_more n ts t {before} {set} {after} h {c} e j =
    record {
      long = j.long ∙ h.long;
      is = λ x l.
          j.is x l ∙ ap₂ (λ (a b : Bool). a || (b && ltb x (2 ^ n))) (h.is x l) (ap (λ (d : digits.Cube). has d x) e)
          ∙ regroup (in_set before x) (visited_by n ts t x) (visits n ts t x) (ltb x (2 ^ n))
          ∙ ap (λ (b : Bool). in_set before x || (b && ltb x (2 ^ n))) (sym (visited-more x));
    }
  where
    visited-more : (x : ℕ) → visited_by n ts (t + 1) x ≡ (visited_by n ts t x || visits n ts t x)
    visited-more x = rw (add-one t) (any_more (λ k. visits n ts k x) 0 t ∙ ap (λ (k : ℕ). visited_by n ts t x || visits n ts k x) (zero-add t))

    regroup : (a v h l : Bool) → ((a || (v && l)) || (h && l)) ≡ (a || ((v || h) && l))
    regroup true v h l = refl
    regroup false true h true = refl
    regroup false true true false = refl
    regroup false true false false = refl
    regroup false false h l = refl

-- All of them, from a set without points.
pub visited_all : (n : ℕ) (ts : List ℕ) (t : ℕ) (before after : List ℕ) → Visiting n ts t before after → count ts ≡ t → ((x : ℕ) → in_set before x ≡ false) → (x : ℕ) → x < 1024 → in_set after x ≡ (visited n ts x && ltb x (2 ^ n))
visited_all n ts t before after h e none x l =
    h.is x l ∙ ap₂ (λ (a : Bool) (k : ℕ). a || (visited_by n ts k x && ltb x (2 ^ n))) (none x) (sym e)

-- What a set leaves of the ones.
pub left-unvisited : (planes : Planes) (n : ℕ) (ts set out : List ℕ) → planes.n.count ≡ n → ((x : ℕ) → x < 1024 → in_set set x ≡ (visited n ts x && ltb x (2 ^ n)))
    → ((x : ℕ) → in_set out x ≡ (in_set planes.ones.words x && not (in_set set x))) → (x : ℕ) → x < 2 ^ planes.n.count → in_set out x ≡ unvisited planes.n.count (table_in planes) ts x
left-unvisited planes n ts set out e seen left x l =
    left x ∙ ap₂ (λ (o s : Bool). o && not s) (plane_in (plane_ones planes) x (omega (arith, l, table-length planes))) all
  where
    below : x < 2 ^ n
    below = rw (← e) l

    all : in_set set x ≡ visited planes.n.count ts x
    all = seen x (omega (arith, l, pow_mono {j = 10} planes.n.few)) ∙ ap (λ (b : Bool). visited n ts x && b) (lt-ltb x (2 ^ n) below) ∙ and-true (visited n ts x) ∙ ap (λ (m : ℕ). visited m ts x) (sym e)

-- So they are the single points.
pub left_points : (n : ℕ) (f ts words : List ℕ) → ((x : ℕ) → x < 2 ^ n → in_set words x ≡ unvisited n f ts x) → single_points n (count ts) (in_set words) ≡ of_points n f ts
left_points n f ts words u =
    ap (map {B = Required} (λ x. record { transition = count ts; label = x; cube = span n x x })) (those-same (in_set words) (unvisited n f ts) 0 (2 ^ n) (λ x a b. u x (omega arith)))
