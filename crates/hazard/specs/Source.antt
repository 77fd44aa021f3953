-- The source's own words for what Transition.antt and Sets.antt compute: Definitions 2.4 and 2.5, Lemmas 2.7 to 2.9, Theorem 2.10. The single
-- points, which the source does not have, are said in the same words.
use Rattle.std.specs.Prelude.{◌≡◌, ◌≢◌, ℕ, ◌<◌, ◌^◌, T}
use mathlib.Core.List.{List, Memᴰ}
use Rattle.hazard.specs.Cube.{Cube, has, span, meets, inside}
use Rattle.hazard.specs.Transition.{value, start, end, count, Kind, low, rise, fall, high}
use Rattle.hazard.specs.Sets.{Required}
use Rattle.hazard.specs.Cover.{Network}

-- Definition 2.4: a static function hazard for the transition from a to c, shown by a point b of [a,c].
pub record StaticHazard (n : ℕ) (f : List ℕ) (a c : ℕ) : Type 0 where
  pub b : ℕ
  pub same : value f a ≡ value f c
  pub point : b < 2 ^ n
  pub between : T (has (span n a c) b)
  pub differs : value f a ≢ value f b

-- Definition 2.5: a dynamic function hazard for the transition from a to d, shown by points b of [a,d] and c of [b,d].
pub record DynamicHazard (n : ℕ) (f : List ℕ) (a d : ℕ) : Type 0 where
  pub b : ℕ
  pub c : ℕ
  pub differs : value f a ≢ value f d
  pub b-point : b < 2 ^ n
  pub c-point : c < 2 ^ n
  pub b-between : T (has (span n a d) b)
  pub c-between : T (has (span n b d) c)
  pub b_ends : value f b ≡ value f d
  pub c_starts : value f a ≡ value f c

-- f is 1 on the subcube [a,x] of [a,b].
pub record OneOn (n : ℕ) (f : List ℕ) (a b x : ℕ) : Type 0 where
  pub point : x < 2 ^ n
  pub within : T (inside (span n a x) (span n a b))
  pub ones : (y : ℕ) → y < 2 ^ n → T (has (span n a x) y) → value f y ≡ 1

-- Lemma 2.8: [a,x] is a maximal subcube of [a,b] on which f is 1.
pub record MaximalOn (n : ℕ) (f : List ℕ) (a b x : ℕ) : Type 0 where
  pub one_on : OneOn n f a b x
  pub maximal : (y : ℕ) → OneOn n f a b y → T (inside (span n a x) (span n a y)) → T (inside (span n a y) (span n a x))

-- The labels that Lemmas 2.7 to 2.9 give: none, those of the fall read in reverse, the maximal subcubes, the whole cube.
abbrev pub SourceLabel : ℕ → List ℕ → Kind → ℕ → ℕ → ℕ → Type 0
SourceLabel n f low a b x = ⊥
SourceLabel n f rise a b x = MaximalOn n f b a x
SourceLabel n f fall a b x = MaximalOn n f a b x
SourceLabel n f high a b x = x ≡ b

-- The required cube, with its label, that the source gives a transition from a to b: [a,b] for 1 to 1 (Lemma 2.7), [a,x] for 1 to 0
-- (Lemma 2.8), the same in reverse for 0 to 1, and none for 0 to 0 (Lemma 2.9).
pub data SourceRequired (n : ℕ) (f : List ℕ) (a b : ℕ) : Cube → ℕ → Type 0 where
  stays : {x : ℕ} → value f a ≡ 1 → value f b ≡ 1 → SourceLabel n f high a b x → SourceRequired n f a b (span n a x) x
  falls : {x : ℕ} → value f a ≡ 1 → value f b ≡ 0 → SourceLabel n f fall a b x → SourceRequired n f a b (span n a x) x
  rises : {x : ℕ} → value f a ≡ 0 → value f b ≡ 1 → SourceLabel n f rise a b x → SourceRequired n f a b (span n b x) x

-- A 1 of the table that lies in no [A,B].
pub record UnvisitedOne (n : ℕ) (f ts : List ℕ) (x : ℕ) : Type 0 where
  pub point : x < 2 ^ n
  pub one : value f x ≡ 1
  pub outside : (k : ℕ) → k < count ts → ¬ T (has (span n (start ts k) (end ts k)) x)

-- The required cubes of a problem: those that the source gives each transition, and each 1 that lies in no [A,B] as a cube of its own, with
-- the number of transitions, which is no transition.
pub data RequiredCube (n : ℕ) (f ts : List ℕ) : Required → Type 0 where
  of_transition : {k x : ℕ} {q : Cube} → k < count ts → SourceRequired n f (start ts k) (end ts k) q x → RequiredCube n f ts (record { transition = k; label = x; cube = q })
  of_point : {x : ℕ} → UnvisitedOne n f ts x → RequiredCube n f ts (record { transition = count ts; label = x; cube = span n x x })

-- The privileged cube, with its start point, that the source gives a transition from a to b: for 1 to 0 [a,b] with a, for 0 to 1 [a,b]
-- with b, and no others.
pub data SourcePrivileged (n : ℕ) (f : List ℕ) (a b : ℕ) : Cube → ℕ → Type 0 where
  falls : value f a ≡ 1 → value f b ≡ 0 → SourcePrivileged n f a b (span n a b) a
  rises : value f a ≡ 0 → value f b ≡ 1 → SourcePrivileged n f a b (span n a b) b

-- The source's OFF-set: the points at which f is 0.
abbrev pub SourceOff : ℕ → List ℕ → ℕ → Type 0
SourceOff n f x = (x < 2 ^ n) × (value f x ≡ 0)

-- A trivial privileged cube q with start point s: f is 1 at s and 0 at all its other points.
pub record Trivial (n : ℕ) (f : List ℕ) (q : Cube) (s : ℕ) : Type 0 where
  pub one : value f s ≡ 1
  pub rest : (x : ℕ) → x < 2 ^ n → T (has q x) → x ≢ s → value f x ≡ 0

-- Theorem 2.10 as the source words it, with the single points among the required cubes: (a) no product contains a point of the OFF-set; (b) each
-- required cube lies in a single product; (c) a product that shares a point with a privileged cube, if that is not trivial, contains its start
-- point.
pub record SourceCover (n : ℕ) (f ts : List ℕ) (net : Network) : Type 0 where
  pub a : (p : Cube) → Memᴰ p net → (x : ℕ) → SourceOff n f x → ¬ T (has p x)
  pub b : (r : Required) → RequiredCube n f ts r → (p : Cube) × Memᴰ p net × T (inside r.cube p)
  pub c : (p : Cube) → Memᴰ p net → (k : ℕ) → k < count ts → (q : Cube) (s : ℕ) → SourcePrivileged n f (start ts k) (end ts k) q s → ¬ Trivial n f q s
      → T (meets p q) → T (has p s)
