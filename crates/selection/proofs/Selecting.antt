-- The words that are selected are those that the choice kept.
use mathlib.Core.Path.{◌≡◌, sym, ap, ◌∙◌, subst}
use mathlib.Core.Bool.{Bool}
use mathlib.Core.List.Memᴰ
use mathlib.Core.List.{List, ◌++◌, map, Memᴰ}
use Rattle.std.specs.Prelude.{None}
use Prim.Native.Nat.{ℕ, ◌+◌, ◌-◌, ◌<◌}
use native.Mathlib.Nat.{sub-zero}
use native.Mathlib.Omega.{arith}
use lib.ListN.{length, get_or, take, drop, length-drop, length-append, length-map}
use lib.Seq.{drop-append-le, take_at, get_or-take, get_or-drop, length-take-le}
use Rattle.hazard.specs.Cube.{Cube}
use Rattle.hazard.specs.Sets.{Privileged}
use Rattle.hazard.specs.Implicant.{DhfPrime}
use Rattle.cube.specs.Entry.{required_in, CleanWord, cube_in, network_in}
use Rattle.choice.specs.Keep.{Kept}
use Rattle.choice.proofs.Keeping.{index_of}
use Rattle.selection.specs.Choose.{blocking_of, PrimeWord, Chosen}
use Rattle.selection.specs.Select.{KeptWords, KeptFrom}

module _ {n : ℕ} {off : ℕ → Bool} {vs : List Privileged} {required firsts products : List ℕ} {m : ℕ} (chosen : Chosen n off vs required firsts products m) where
  taken : length (take m products) ≡ m
  taken = length-take-le m products chosen.low

  -- The part of the products from 0 to m is handed on.
  module _ {after : List ℕ} {r : ℕ} (part : Kept n required (take (m - 0) products) after r) where
    kept : Kept n required (take m products) after r
    kept = subst (λ (z : ℕ). Kept n required (take z products) after r) (sub-zero m) part

    size : length after ≡ m
    size = kept.long ∙ taken

    -- The kept products are read back from the whole array.
    kept_part : (rest : List ℕ) → take (m - r) (drop r (after ++ rest)) ≡ drop r after
    kept_part rest = rw (drop-append-le r after rest kept.low) (take_at (drop r after) rest (m - r) (omega (arith, length-drop r after, size)))

    kept_word : (i : ℕ) → i < length (drop r after) → PrimeWord n off vs (get_or (drop r after) i 0)
    kept_word i l =
        let (k, h, f) = index_of (kept.same (r + i) (omega (arith, l, length-drop r after))) in
        let b : k < m = omega (arith, h, taken) in
        subst (PrimeWord n off vs) (sym (get_or-take m products k 0 b) ∙ f ∙ sym (get_or-drop r after i 0)) (chosen.good k b)

    kept-prime : (p : Cube) → Memᴰ p (network_in n (drop r after)) → DhfPrime n off vs p
    kept-prime p u =
        let (w, v, e) = Memᴰ.of_map (cube_in n) (drop r after) u in
        let (i, l, g) = index_of v in
        subst (DhfPrime n off vs) (ap (cube_in n) g ∙ e) (kept_word i l).prime

    kept-clean : (w : ℕ) → Memᴰ w (drop r after) → CleanWord n w
    kept-clean w u = let (i, l, g) = index_of u in subst (CleanWord n) g (kept_word i l).clean

    kept-words : KeptWords n off vs (map (required_in n) required) (drop r after)
    kept-words =
        record {
          clean = kept-clean;
          primes = kept-prime;
          covers = kept.covers;
          own = kept.own;
          few = omega (arith, length-drop r after, size, length-map required (required_in n), chosen.noted.few, taken);
        }

    pub kept_from : blocking_of n off vs (map (required_in n) required) ≡ None → (rest : List ℕ) → KeptFrom n off vs (map (required_in n) required) (after ++ rest) r m
    kept_from e rest =
        record {
          free = e;
          low = omega (arith, kept.low, size);
          high = omega (arith, length-append after rest, size);
          kept = rw (kept_part rest) kept-words;
        }
