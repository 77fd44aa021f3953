-- The loop that stores a network's products as words.
use mathlib.Core.Path.{◌≡◌, refl, ap, ap₂, ◌∙◌}
use mathlib.Core.List.{List, [], ◌∷◌, ◌++◌, map-append}
use Prim.Native.Nat.{ℕ, ◌+◌, ◌/◌, ◌≤◌, ◌<◌}
use native.Mathlib.Numerals.{add-one}
use native.Mathlib.Omega.{arith}
use native.Mathlib.Decide.{ℕ_discrete}
use lib.ListN.{length, get_or, take, set}
use lib.Seq.{take-suc, take-suc-set, take_all, get_or-set_same, get_or-set_other}
use Rattle.hazard.specs.Cover.{Network, product_at}
use Rattle.hazard.specs.Verdict.{products}
use Rattle.cube.specs.Entry.{CleanWord, cube_in, network_in}
use Rattle.network_bytes.specs.Network.{Read}
use Rattle.hazard.proofs.Verdict.{products-length}

pub record Reading (n : ℕ) (bytes words : List ℕ) (j : ℕ) : Type 0 where
  pub low : j ≤ length bytes / n
  pub is : network_in n (take j words) ≡ take j (products n bytes)
  pub clean : (i : ℕ) → i < j → CleanWord n (get_or words i 0)

pub reading_start : (n : ℕ) (bytes words : List ℕ) → Reading n bytes words 0
reading_start n bytes words = record { low = omega arith; is = refl; clean = λ i h. absurd (omega arith) }

pub reading_step : {n : ℕ} {bytes words : List ℕ} {j : ℕ} → Reading n bytes words j → j < length bytes / n → j < length words
    → {w : ℕ} → cube_in n w ≡ product_at (products n bytes) j → CleanWord n w → Reading n bytes (set words j w) (j + 1)
reading_step {n} {bytes} {words} {j} s h l {w} e k =
    record {
      low = omega arith;
      is = grown;
      clean = λ i a. elim (ℕ_discrete i j) [ yes q ↦ rw (q, get_or-set_same words j w 0 l) k | no q ↦ rw (get_or-set_other words j i w 0 q) (s.clean i (omega arith)) ];
    }
  where
    grown : network_in n (take (j + 1) (set words j w)) ≡ take (j + 1) (products n bytes)
    grown =
        rw (add-one, take-suc-set words j w l, take-suc (products n bytes) j [] (omega (arith, products-length n bytes)))
        (map-append (cube_in n) (take j words) (w ∷ []) ∙ ap₂ (λ (a b : Network). a ++ b) s.is (ap (λ c. c ∷ []) e))

pub reading_end : {n : ℕ} {bytes words : List ℕ} {j : ℕ} → Reading n bytes words j → length bytes / n ≤ j → j ≤ length words → Read n bytes words (length bytes / n)
reading_end {n} {bytes} {words} {j} s e l =
    let q : j ≡ length bytes / n = omega (arith, s.low) in
    let r = rw q at s in
    record { is = r.is ∙ take_all (length bytes / n) (products n bytes) (omega (arith, products-length n bytes)); low = omega arith; clean = r.clean }
