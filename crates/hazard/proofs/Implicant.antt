-- What the tests of specs/Implicant mean, over an OFF-set and a list of privileged cubes.
use mathlib.Core.Logic.{◌↔◌}
use mathlib.Core.Bool.{Bool, not, ◌&&◌}
use mathlib.Core.List.{List, Memᴰ}
use Rattle.std.specs.Prelude.{Option, None, Some}
use Prim.Native.Nat.{ℕ, ◌^◌, ◌<◌}
use native.Mathlib.Omega.{arith}
use lib.Dec.{T}
use Rattle.hazard.specs.Search.{found, find}
use Rattle.hazard.specs.Cube.{Cube, has}
use Rattle.hazard.specs.Sets.{Privileged}
use Rattle.hazard.specs.Implicant.{illegal, lowest_zero, dhf_implicant, DhfPrime}
use Rattle.hazard.proofs.Test.{T_and, T_no}
use Rattle.hazard.proofs.Search.{First, nowhere, lowest, first-is, Find, missing, hit, find-is}
use Rattle.hazard.proofs.Cube.{Digits, Has, Inside, digits→, →digits, has→, →has, inside→, →inside, has_dec, meets→, →meets}

-- An illegal intersection, by points.
pub record Illegal (c : Cube) (v : Privileged) : Type 0 where
  pub shared : ℕ
  pub mine : Has c shared
  pub its : Has v.cube shared
  pub lacks : ¬ Has c v.start

pub illegal→ : {n : ℕ} {c : Cube} {v : Privileged} → Digits n c → Digits n v.cube → T (illegal c v) → Illegal c v
illegal→ {n} {c} {v} w u t =
    let (i, j) = simp (T_and, T_no) at t in
    let (x, b, y, z) = meets→ w u i in
    record { shared = x; mine = y; its = z; lacks = λ h. j (→has h) }

pub →illegal : {n : ℕ} {c : Cube} {v : Privileged} → Digits n c → Digits n v.cube → Illegal c v → T (illegal c v)
→illegal {n} {c} {v} w u h = simp (T_and, T_no) (→meets w u h.mine h.its, λ t. h.lacks (has→ c v.start t))

-- A cube has no zero.
abbrev pub Clean : ℕ → (ℕ → Bool) → Cube → Type 0
Clean n off q = (x : ℕ) → x < 2 ^ n → T (off x) → ¬ Has q x

-- A cube that has a point of a privileged cube has its start point.
abbrev pub Closed : List Privileged → Cube → Type 0
Closed vs q = (v : Privileged) → Memᴰ v vs → (x : ℕ) → Has q x → Has v.cube x → Has q v.start

-- A dhf-implicant of n inputs.
pub record Dhf (n : ℕ) (off : ℕ → Bool) (vs : List Privileged) (q : Cube) : Type 0 where
  pub digits : Digits n q
  pub clean : Clean n off q
  pub closed : Closed vs q

-- The privileged cubes are cubes of n inputs.
abbrev pub Wide : ℕ → List Privileged → Type 0
Wide n vs = (v : Privileged) → Memᴰ v vs → Digits n v.cube

pub data Zero (n : ℕ) (off : ℕ → Bool) (c : Cube) : Option ℕ → Type 0 where
  clean : Clean n off c → Zero n off c None
  zero' : {z : ℕ} → z < 2 ^ n → Has c z → T (off z) → Zero n off c (Some z)

pub zero_is : (n : ℕ) (off : ℕ → Bool) (c : Cube) → Zero n off c (lowest_zero n off c)
zero_is n off c = go (lowest_zero n off c) (first-is (λ x. has c x && off x) 0 (2 ^ n))
  where
    go : (r : Option ℕ) → First (λ x. has c x && off x) 0 (2 ^ n) r → Zero n off c r
    go None (nowhere h) = clean (λ x l o k. h x (omega arith) (omega arith) (simp T_and (→has k, o)))
    go (Some z) (lowest t l m h) = let (i, j) = simp T_and at t in zero' {z = z} (omega arith) (has→ c z i) j

pub data Meeting (vs : List Privileged) (c : Cube) : Option Privileged → Type 0 where
  closed : Closed vs c → Meeting vs c None
  illegally : {v : Privileged} → Memᴰ v vs → Illegal c v → Meeting vs c (Some v)

-- A dhf-prime, by points.
pub record Prime (n : ℕ) (off : ℕ → Bool) (vs : List Privileged) (p : Cube) : Type 0 where
  pub dhf : Dhf n off vs p
  pub maximal : (q : Cube) → Dhf n off vs q → Inside p q → Inside q p

module _ (n : ℕ) (off : ℕ → Bool) (vs : List Privileged) (wide : Wide n vs) where
  pub meeting_is : {c : Cube} → Digits n c → Meeting vs c (find (illegal c) vs)
  meeting_is {c} w = go (find (illegal c) vs) (find-is (illegal c) vs)
    where
      go : (r : Option Privileged) → Find (illegal c) vs r → Meeting vs c r
      go None (missing h) = closed (λ v m x i j. elim (has_dec c v.start) [
        | yes y ↦ y
        | no y ↦ absurd (h v m (→illegal {v = v} w (wide v m) (record { shared = x; mine = i; its = j; lacks = y })))
      ])
      go (Some v) (hit m t _) = illegally m (illegal→ {v = v} w (wide v m) t)

  -- The test and its meaning.
  pub dhf-is : {c : Cube} → Digits n c → T (dhf_implicant n off vs c) ↔ Dhf n off vs c
  dhf-is {c} w = go (lowest_zero n off c) (zero_is n off c) (find (illegal c) vs) (meeting_is w)
    where
      go : (z : Option ℕ) → Zero n off c z → (v : Option Privileged) → Meeting vs c v → T (not (found z) && not (found v)) ↔ Dhf n off vs c
      go None (clean h) None (closed k) = (λ t. record { digits = w; clean = h; closed = k }, λ d. tt)
      go None (clean h) (Some v) (illegally m i) = (λ t. absurd t, λ d. i.lacks (d.closed v m i.shared i.mine i.its))
      go (Some z) (zero' b h o) v m = (λ t. absurd t, λ d. d.clean z b o h)

  pub prime-is : (p : Cube) → DhfPrime n off vs p ↔ Prime n off vs p
  prime-is p = (
    λ h. let w = digits→ n p h.product in record {
      dhf = (dhf-is w).0 h.dhf;
      maximal = λ q d i. inside→ q p (h.maximal q (→digits d.digits) ((dhf-is d.digits).1 d) (→inside i));
    },
    λ h. record {
      product = →digits h.dhf.digits;
      dhf = (dhf-is h.dhf.digits).1 h.dhf;
      maximal = λ q w t i. →inside (h.maximal q ((dhf-is (digits→ n q w)).0 t) (inside→ p q i));
    },
  )
