-- The library's text of a number is the program's.
use mathlib.Core.Path.{◌≡◌, sym, ap, ◌∙◌}
use mathlib.Core.List.{List, [], ◌∷◌, ◌++◌}
use Prim.Native.Nat.{ℕ, zero, suc, ◌/◌, ◌%◌, ◌^◌, ◌<◌}
use native.Mathlib.Nat.{pow-suc}
use native.Mathlib.Decide.{dec_lt}
use native.Mathlib.Omega.{arith}
use Rattle.std.specs.Fmt as fmt
use Rattle.std.proofs.lemmas.Fmt.{decimal_digit, decimal_step}
use Rattle.problem_text.specs.Decimal.{digit, spelled}
use Rattle.problem_text.proofs.Decimal.{spelled-digit, spelled_last}

pub decimal_spelled : (k x : ℕ) → x < 10 ^ suc k → x < 65536 → fmt.decimal x ≡ spelled (suc k) x
decimal_spelled zero x h l = decimal_digit x (omega arith) ∙ sym (spelled-digit 0 x (omega arith))
decimal_spelled (suc k) x h l =
    elim (dec_lt x 10) [
      | yes s ↦ decimal_digit x s ∙ sym (spelled-digit (suc k) x s)
      | no g ↦
          let e = pow-suc 10 (suc k) in
          decimal_step x (omega arith) (omega arith) ∙ ap (λ (s : List ℕ). s ++ (digit (x % 10) ∷ [])) (decimal_spelled k (x / 10) (omega (arith, e)) (omega arith))
          ∙ sym (spelled_last (suc k) x (omega arith))
    ]
