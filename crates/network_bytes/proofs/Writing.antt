-- The loop that writes a network's bytes.
use mathlib.Core.Path.{◌≡◌, refl, sym, ap, ◌∙◌}
use mathlib.Core.List.{List, [], ◌∷◌, ◌++◌, append_assoc, append-nil}
use Prim.Native.Nat.{ℕ, ◌+◌, ◌*◌, ◌≤◌, ◌<◌}
use native.Mathlib.Nat.{zero-mul, suc-mul, mul-le-mul_right}
use native.Mathlib.Numerals.{add-one}
use native.Mathlib.Omega.{arith}
use lib.ListN.{length, get_or, take, drop, length-append}
use lib.Seq.{take_all, take-length, take_at, drop-append-add, drop-drop, paste, length-take-le}
use Rattle.hazard.specs.Cover.{Network}
use Rattle.hazard.specs.Minimal.{bytes_of}
use Rattle.cube.specs.Entry.{care_in, value_in, cube_in, network_in}
use Rattle.cube.proofs.Digits.{length_digits}
use Rattle.cube.proofs.Networks.{network-suc}

bytes-snoc : (net : Network) (p : List ℕ) → bytes_of (net ++ (p ∷ [])) ≡ bytes_of net ++ p
bytes-snoc [] p = append-nil p
bytes-snoc (q ∷ net) p = rw (bytes-snoc net p) (sym (append_assoc q (bytes_of net) p))

-- n bytes for each product.
pub bytes-length : (n : ℕ) (ws : List ℕ) → length (bytes_of (network_in n ws)) ≡ length ws * n
bytes-length n [] = sym (zero-mul n)
bytes-length n (w ∷ ws) = length-append (cube_in n w) (bytes_of (network_in n ws)) ∙ omega (arith, length_digits n (care_in w) (value_in w), bytes-length n ws, suc-mul (length ws) n)

-- The products up to j are written, and the rest of the buffer is as it was.
pub record Writing (n : ℕ) (ws before out : List ℕ) (j : ℕ) : Type 0 where
  pub is : out ≡ bytes_of (network_in n (take j ws)) ++ drop (j * n) before
  pub long : length out ≡ length before

pub writing_start : (n : ℕ) (ws before : List ℕ) → Writing n ws before before 0
writing_start n ws before = record { is = rw zero-mul; long = refl }

module _ {n : ℕ} {ws before out : List ℕ} {j : ℕ} (s : Writing n ws before out j) (h : j < length ws) (room : length ws * n ≤ length before) where
  pub writing_room : j * n + n ≤ length before
  writing_room = omega (arith, suc-mul j n, mul-le-mul_right n h)

  front : length (bytes_of (network_in n (take j ws))) ≡ j * n
  front = bytes-length n (take j ws) ∙ rw (length-take-le j ws (omega arith))

  pub writing_step : {out' : List ℕ} → out' ≡ paste out (j * n) (cube_in n (get_or ws j 0)) n → length out' ≡ length out → Writing n ws before out' (j + 1)
  writing_step {out'} e l =
      record {
        is = e ∙ grown ∙ rw (← next);
        long = l ∙ s.long;
      }
    where
      next : (j + 1) * n ≡ j * n + n
      next = rw add-one (suc-mul j n)

      head : take (j * n) out ≡ bytes_of (network_in n (take j ws))
      head = ap (take (j * n)) s.is ∙ take_at (bytes_of (network_in n (take j ws))) (drop (j * n) before) (j * n) front

      tail : drop (j * n + n) out ≡ drop (j * n + n) before
      tail =
          rw s.is (ap (λ (k : ℕ). drop k (bytes_of (network_in n (take j ws)) ++ drop (j * n) before)) (ap (λ (k : ℕ). k + n) (sym front))
          ∙ drop-append-add (bytes_of (network_in n (take j ws))) (drop (j * n) before) n ∙ drop-drop n (j * n) before)

      whole : take n (cube_in n (get_or ws j 0)) ≡ cube_in n (get_or ws j 0)
      whole = take_all n (cube_in n (get_or ws j 0)) (omega (arith, length_digits n (care_in (get_or ws j 0)) (value_in (get_or ws j 0))))

      grown : paste out (j * n) (cube_in n (get_or ws j 0)) n ≡ bytes_of (network_in n (take (j + 1) ws)) ++ drop (j * n + n) before
      grown = rw (head, tail, whole, add-one, network-suc n ws j h, bytes-snoc)

pub writing_end : {n : ℕ} {ws before out : List ℕ} {j : ℕ} → Writing n ws before out j → j ≡ length ws → out ≡ bytes_of (network_in n ws) ++ drop (length ws * n) before
writing_end {n} {ws} {before} {out} {j} s e = s.is ∙ rw (e, take-length ws)
