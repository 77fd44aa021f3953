-- Lines of products.
use mathlib.Core.Path.{◌≡◌, refl, sym, ap, ◌∙◌}
use mathlib.Core.List.{List, [], ◌∷◌, ◌++◌, map, append_assoc, map-append}
use Prim.Native.Nat.{ℕ, zero, suc, ◌+◌, ◌*◌, ◌-◌, ◌≤◌, ◌<◌}
use native.Mathlib.Nat.{zero-mul, suc-mul, add-mul, add_comm}
use native.Mathlib.Numerals.{add-one}
use native.Mathlib.Omega.{arith}
use lib.ListN.{length, get_or, take, drop, set, length-map, length-append, length-drop}
use lib.Seq.{drop-drop, take-suc, take-length, length-take-le}
use borrow.Rule.Slice.PartMut.{put_mid}
use Rattle.hazard.specs.Cover.{Network}
use Rattle.hazard.specs.Verdict.{cut}
use Rattle.problem_text.specs.Form.{newline, cell}
use Rattle.writing.specs.Output.{product_lines}
use Rattle.writing.specs.Put.{Put}
use Rattle.writing.proofs.Putting.{put_one, put_then}

-- The line of a product.
abbrev pub line : List ℕ → List ℕ
line p = map cell p ++ (newline ∷ [])

line_length : (p : List ℕ) → length (line p) ≡ length p + 1
line_length p = length-append (map cell p) (newline ∷ []) ∙ rw length-map

-- One product more.
cut-suc : (n j : ℕ) (bytes : List ℕ) → cut n (suc j) bytes ≡ cut n j bytes ++ (take n (drop (j * n) bytes) ∷ [])
cut-suc n zero bytes = rw zero-mul
cut-suc n (suc j) bytes = ap (λ (net : Network). take n bytes ∷ net) (cut-suc n j (drop n bytes) ∙ rw (drop-drop, suc-mul, add_comm (j * n) n))

-- One line more.
printing_snoc : (net : Network) (p : List ℕ) → product_lines (net ++ (p ∷ [])) ≡ product_lines net ++ line p
printing_snoc [] p = refl
printing_snoc (q ∷ net) p = rw (printing_snoc net p) (sym (append_assoc (map cell q) (newline ∷ product_lines net) (line p)))

-- The part of the bytes that is one more product.
part : (n j : ℕ) → (j + 1) * n - j * n ≡ n
part n j = omega (arith, add-mul j 1 n)

-- The characters of one digit more,
pub put_cell :
    {before out : List ℕ} {i v : ℕ} (product : List ℕ) → Put before (map cell (take i product)) out i → i < length product → i < length before → v ≡ cell (get_or product i 0)
    → Put before (map cell (take (i + 1) product)) (set out i v) (i + 1)
put_cell {before} {out} {i} {v} product p h l e =
    let grown : map cell (take (i + 1) product) ≡ map cell (take i product) ++ (v ∷ []) = rw (add-one, take-suc product i 0 h, e) (map-append cell (take i product) (get_or product i 0 ∷ [])) in
    rw grown (put_one v p l)

-- and the end of the line.
pub put_line :
    {before out : List ℕ} {i : ℕ} (product : List ℕ) → Put before (map cell (take i product)) out i → i ≡ length product → length product < length before
    → Put before (line product) (set out (length product) newline) (length product + 1)
put_line {before} {out} {i} product p e l =
    let whole : take i product ≡ product = rw e (take-length product) in
    let q : Put before (map cell product) out (length product) = rw (whole, e) at p in
    put_one newline q l

-- One line more is put,
pub put_lines : {before out rest : List ℕ} {at k : ℕ} (n j : ℕ) (products : List ℕ) → Put before (product_lines (cut n j products)) out at
    → Put (take (length out - at) (drop at out)) (line (take ((j + 1) * n - j * n) (drop (j * n) products))) rest k → Put before (product_lines (cut n (j + 1) products)) (put_mid at (length out - at) out rest) (at + k)
put_lines {before} {out} {rest} {at} {k} n j products p q =
    let r : Put (take (length out - at) (drop at out)) (line (take n (drop (j * n) products))) rest k = rw (part n j) at q in
    let grown : product_lines (cut n (j + 1) products) ≡ product_lines (cut n j products) ++ line (take n (drop (j * n) products)) =
    rw add-one (ap product_lines (cut-suc n j products) ∙ printing_snoc (cut n j products) (take n (drop (j * n) products))) in
    rw grown (put_then p r)

-- and it is as long as the product and its end.
pub lines_place : {k : ℕ} (n j : ℕ) (products : List ℕ) → (j + 1) * n ≤ length products → k ≡ length (line (take ((j + 1) * n - j * n) (drop (j * n) products))) → k ≡ n + 1
lines_place n j products h e =
    let l : length (take n (drop (j * n) products)) ≡ n = length-take-le n (drop (j * n) products) (rw length-drop (omega (arith, add-mul j 1 n))) in
    e ∙ rw (part n j, line_length (take n (drop (j * n) products)), l)
