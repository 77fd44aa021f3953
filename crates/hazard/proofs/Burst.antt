-- A transition cube has few points: where few inputs move.
use mathlib.Core.Path.{◌≡◌, sym, ap, ◌∙◌}
use mathlib.Core.Logic.{◌≢◌}
use mathlib.Core.Bool.{Bool}
use Prim.Native.Nat.{ℕ, zero, suc, ◌+◌, ◌*◌, ◌/◌, ◌%◌, ◌^◌, ◌≤◌, ◌<◌}
use native.Mathlib.Nat.{pow-suc}
use native.Mathlib.Omega.{arith}
use native.Mathlib.Decide.{ℕ_discrete}
use lib.Dec.{T, eqb, eqb→eq}
use lib.ListN.{length}
use lib.Pow.{pow_mono}
use Rattle.hazard.specs.Limits.{most_moving}
use Rattle.hazard.specs.Search.{those}
use Rattle.hazard.specs.Cube.{has, span, distance}
use Rattle.hazard.proofs.Test.{eqb_of, cond_yes, cond_no}
use Rattle.hazard.proofs.Counting.{those-few, those-none, those_halves}
use Rattle.hazard.proofs.Digit.{top, same}
use Rattle.hazard.proofs.Cube.{Has, has→, put_has}

-- [A,B] has at most 2^i points, where i inputs move.
pub span-few : (n a b : ℕ) (test : ℕ → Bool) → ((x : ℕ) → T (test x) → Has (span n a b) x) → length (those test 0 (2 ^ n)) ≤ 2 ^ distance n a b
span-few zero a b test h = those-few test 0 1
span-few (suc n) a b test h =
    go (ℕ_discrete (a % 2) (b % 2))
    (span-few n (a / 2) (b / 2) (λ y. test (0 + 2 * y)) (λ y t. (put_has 0 y (omega arith) (h (0 + 2 * y) t)).1))
    (span-few n (a / 2) (b / 2) (λ y. test (1 + 2 * y)) (λ y t. (put_has 1 y (omega arith) (h (1 + 2 * y) t)).1))
  where
    half : ℕ → ℕ
    half d = length (those (λ y. test (d + 2 * y)) 0 (2 ^ n))

    rest : ℕ
    rest = distance n (a / 2) (b / 2)

    split : length (those test 0 (2 ^ suc n)) ≡ half 0 + half 1
    split = let e : 2 ^ suc n ≡ 2 * 2 ^ n = omega (arith, pow-suc 2 n) in ap (λ (k : ℕ). length (those test 0 k)) e ∙ those_halves test 0 (2 ^ n)

    -- Where input 0 stands still, the half with its other value is empty.
    empty : (d : ℕ) → d < 2 → a % 2 ≡ b % 2 → d ≢ a % 2 → half d ≡ 0
    empty d l e ne = those-none (λ y. test (d + 2 * y)) 0 (2 ^ n) (λ y t. elim (put_has d y l (h (d + 2 * y) t)).0 [
      | top q ↦ omega (arith, cond_yes (eqb (a % 2) (b % 2)) (a % 2) 2 (eqb_of e), q)
      | same q ↦ ne (q ∙ cond_yes (eqb (a % 2) (b % 2)) (a % 2) 2 (eqb_of e))
    ])

    go : Dec (a % 2 ≡ b % 2) → half 0 ≤ 2 ^ rest → half 1 ≤ 2 ^ rest → length (those test 0 (2 ^ suc n)) ≤ 2 ^ distance (suc n) a b
    go (yes e) p q =
        let r : distance (suc n) a b ≡ rest = let c = cond_yes {A = ℕ} (eqb (a % 2) (b % 2)) 0 1 (eqb_of e) in omega (arith, c) in
        rw r (elim (ℕ_discrete (a % 2) 0) [
          | yes z ↦ let ne : 1 ≢ a % 2 = λ u. omega arith in omega (arith, split, p, empty 1 (omega arith) e ne)
          | no z ↦ omega (arith, split, q, empty 0 (omega arith) e (λ u. z (sym u)))
        ])
    go (no ne) p q =
        let r : distance (suc n) a b ≡ suc rest = let c = cond_no {A = ℕ} (eqb (a % 2) (b % 2)) 0 1 (λ t. ne (eqb→eq (a % 2) (b % 2) t)) in omega (arith, c) in
        rw r (omega (arith, split, p, q, pow-suc 2 rest))

-- At most 32, where the transition is within the limit.
pub burst_few : (n a b : ℕ) → distance n a b ≤ most_moving → (test : ℕ → Bool) → ((x : ℕ) → T (test x) → T (has (span n a b) x)) → length (those test 0 (2 ^ n)) ≤ 32
burst_few n a b l test h = omega (arith, span-few n a b test (λ x t. has→ (span n a b) x (h x t)), pow_mono {i = distance n a b} {j = 5} l)
