-- Decimal digits, one after another.
use mathlib.Core.Path.{◌≡◌, sym, ap, ◌∙◌}
use mathlib.Core.List.{List, [], ◌∷◌, ◌++◌}
use Prim.Native.Nat.{ℕ, zero, suc, ◌+◌, ◌*◌, ◌-◌, ◌/◌, ◌%◌, ◌^◌, ◌≤◌, ◌<◌}
use native.Mathlib.Nat.{pow-suc}
use native.Mathlib.Decide.{dec_lt}
use native.Mathlib.Omega.{arith}
use lib.ListN.{length, length-append}
use borrow.Author.Tests.{lt-ltb, le-ltb}
use Rattle.problem_text.specs.Decimal.{digit, spelled, decimal}

-- A number below 10 is its digit.
pub spelled-digit : (k x : ℕ) → x < 10 → spelled (suc k) x ≡ digit x ∷ []
spelled-digit k x h = rw (lt-ltb x 10 h)

-- Any other is the number without its last digit, and that digit.
pub spelled_last : (k x : ℕ) → 10 ≤ x → spelled (suc k) x ≡ spelled k (x / 10) ++ (digit (x % 10) ∷ [])
spelled_last k x h = rw (le-ltb x 10 h)

-- Room for more digits changes nothing.
spelled-room : (k x : ℕ) → x < 10 ^ suc k → spelled (suc (suc k)) x ≡ spelled (suc k) x
spelled-room zero x h = spelled-digit 1 x h ∙ sym (spelled-digit 0 x h)
spelled-room (suc k) x h =
    elim (dec_lt x 10) [
      | yes l ↦ spelled-digit (suc (suc k)) x l ∙ sym (spelled-digit (suc k) x l)
      | no g ↦
          let e = pow-suc 10 (suc k) in
          let l : x / 10 < 10 ^ suc k = omega (arith, e) in
          spelled_last (suc (suc k)) x (omega arith) ∙ ap (λ (s : List ℕ). s ++ (digit (x % 10) ∷ [])) (spelled-room k (x / 10) l) ∙ sym (spelled_last (suc k) x (omega arith))
    ]

-- A digit more at a number's end.
pub decimal_digit : (x d : ℕ) → 0 < x → x < 10000 → d < 10 → decimal (x * 10 + d) ≡ decimal x ++ (digit d ∷ [])
decimal_digit x d p h l =
    let q : (x * 10 + d) / 10 ≡ x = omega arith in
    let r : (x * 10 + d) % 10 ≡ d = omega arith in
    spelled_last 4 (x * 10 + d) (omega arith) ∙ rw (q, r, spelled-room 3 x h)

-- At least one digit.
pub decimal-long : (x : ℕ) → 0 < length (decimal x)
decimal-long x = elim (dec_lt x 10) [ yes l ↦ rw (spelled-digit 4 x l) (omega arith) | no g ↦ rw (spelled_last 4 x (omega arith), length-append (spelled 4 (x / 10)) (digit (x % 10) ∷ [])) (omega arith) ]

-- At most k digits.
pub spelled-length : (k x : ℕ) → length (spelled k x) ≤ k
spelled-length zero x = omega arith
spelled-length (suc k) x =
    elim (dec_lt x 10) [
      | yes h ↦ rw (spelled-digit k x h) (omega arith)
      | no h ↦
          rw (spelled_last k x (omega arith)) (omega (arith, length-append (spelled k (x / 10)) (digit (x % 10) ∷ []), spelled-length k (x / 10)))
    ]
