-- Bytes put one after another at the beginning of a buffer.
use mathlib.Core.Path.{◌≡◌, refl, sym, ap, ◌∙◌}
use mathlib.Core.List.{List, [], ◌∷◌, ◌++◌, append_assoc, append-nil}
use Prim.Native.Nat.{ℕ, suc, ◌+◌, ◌-◌, ◌≤◌, ◌<◌}
use native.Mathlib.Omega.{arith}
use lib.ListN.{length, get_or, take, drop, set, length-append, length-drop, drop_of_length-le}
use lib.Seq.{drop-cons, drop-drop, take-append_seam, drop-append_seam}
use borrow.Rule.Slice.PartMut.{put_mid}
use Rattle.std.proofs.lemmas.List.{take_all, set-append_right}
use Rattle.problem_text.specs.Decimal.{decimal}
use Rattle.problem_text.proofs.Decimal.{spelled-length}
use Rattle.writing.specs.Output.{field}
use Rattle.writing.specs.Put.{Put}

-- A byte more.
pub put_one : {before out xs : List ℕ} {k : ℕ} (v : ℕ) → Put before xs out k → k < length before → Put before (xs ++ (v ∷ [])) (set out k v) (k + 1)
put_one {before} {out} {xs} {k} v p h =
    let at : List ℕ = get_or before k 0 ∷ drop (suc k) before in
    let is : out ≡ xs ++ at = p.is ∙ rw (← p.counted) (ap (λ (l : List ℕ). xs ++ l) (drop-cons before k 0 h)) in
    let l : length (xs ++ (v ∷ [])) ≡ suc k = omega (arith, p.counted, length-append xs (v ∷ [])) in
    let none : k - k ≡ 0 = omega arith in
    record {
      is = rw (is, l) (set-append_right xs at k k v (sym p.counted) (omega arith) ∙ rw none (sym (append_assoc xs (v ∷ []) (drop (suc k) before))));
      counted = omega (arith, l);
    }

-- What is put first, then what is put into the rest of the buffer.
pub put_then : {before mid rest xs ys : List ℕ} {k m : ℕ} → Put before xs mid k → Put (take (length mid - k) (drop k mid)) ys rest m → Put before (xs ++ ys) (put_mid k (length mid - k) mid rest) (k + m)
put_then {before} {mid} {rest} {xs} {ys} {k} {m} p q =
    let room : drop (length mid - k) (drop k mid) ≡ [] = drop_of_length-le (drop k mid) (omega (arith, length-drop k mid)) in
    let whole : take (length mid - k) (drop k mid) ≡ drop k mid = take_all (length mid - k) (drop k mid) (omega (arith, length-drop k mid)) in
    let front : take k mid ≡ xs = rw (p.is, p.counted) (take-append_seam xs (drop (length xs) before)) in
    let back : drop k mid ≡ drop (length xs) before = rw (p.is, p.counted) (drop-append_seam xs (drop (length xs) before)) in
    record {
      is = rw (room, q.is, front, whole, back, append-nil, drop-drop, length-append xs ys) (sym (append_assoc xs ys (drop (length xs + length ys) before)));
      counted = omega (arith, p.counted, q.counted, length-append xs ys);
    }

-- How many bytes a number takes, at most.
pub number_most : {before after : List ℕ} {k : ℕ} (x : ℕ) → Put before (decimal x) after k → k ≤ 5
number_most x p = omega (arith, p.counted, spelled-length 5 x)
