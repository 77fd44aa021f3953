-- The lowest bit of a word.
use mathlib.Core.Path.{◌≡◌, ap}
use mathlib.Core.Logic.{◌≢◌}
use Prim.Native.Nat.{ℕ, ◌-◌, ◌*◌, ◌/◌, ◌%◌, ◌^◌, ◌≤◌, ◌<◌}
use native.Mathlib.Nat.{div-eq_of_lt}
use native.Mathlib.Decide.{dec_lt}
use native.Mathlib.Omega.{arith}
use lib.Count.{count_trailing_zeros}
use lib.Pow.{pow_pos}
use Rattle.hazard.specs.Cube.{bit, flip}
use Rattle.cube.proofs.Bits.{one_shifted}
use Rattle.cube.proofs.ByWords.{Lowest, lowest-bit}

module _ (w : ℕ) (small : w < 2 ^ 64) (ne : w ≢ 0) where
  low : Lowest 64 w (count_trailing_zeros 64 w)
  low = lowest-bit 64 w small ne

  pub lowest-few : count_trailing_zeros 64 w < 64
  lowest-few = low.inside

  pub lowest_set : bit w (count_trailing_zeros 64 w) ≡ 1
  lowest_set = low.set

  -- The code's 1 << t.
  pub one_at_lem : (1 * 2 ^ count_trailing_zeros 64 w) % 2 ^ 64 ≡ 2 ^ count_trailing_zeros 64 w
  one_at_lem = one_shifted 64 (count_trailing_zeros 64 w) lowest-few

  -- A set bit is part of the number.
  pub one_below : 2 ^ count_trailing_zeros 64 w ≤ w
  one_below = elim (dec_lt w (2 ^ count_trailing_zeros 64 w)) [
    | yes h ↦ let z : w / 2 ^ count_trailing_zeros 64 w ≡ 0 = div-eq_of_lt h in absurd (omega (arith, lowest_set, ap (λ (y : ℕ). y % 2) z))
    | no h ↦ omega arith
  ]

  pub cleared : w - 2 ^ count_trailing_zeros 64 w ≡ flip w (count_trailing_zeros 64 w)
  cleared = rw lowest_set

  pub cleared_less : w - 2 ^ count_trailing_zeros 64 w < w
  cleared_less = omega (arith, one_below, pow_pos (count_trailing_zeros 64 w))
