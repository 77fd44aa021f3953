-- Bytes read one piece after another.
use mathlib.Core.Path.{◌≡◌, sym, ap, subst, ◌∙◌}
use mathlib.Core.List.{List, ◌++◌, append_assoc}
use Rattle.std.specs.Prelude.{Option, None, Some}
use Rattle.std.specs.Io.KnownBytes.{Consumes}
use Prim.Native.Nat.{ℕ, ◌+◌, ◌-◌, ◌≤◌}
use lib.ListN.{length, take, drop}
use lib.Seq.{length-take-le, take-append-le, take-append-add}
use borrow.Rule.Slice.PartMut.{put_mid}

consumes_then : (a b c : Option (List ℕ)) (xs ys : List ℕ) → Consumes a b xs → Consumes b c ys → Consumes a c (xs ++ ys)
consumes_then None b c xs ys p q = tt
consumes_then (Some zs) None c xs ys p q = absurd p
consumes_then (Some zs) (Some vs) None xs ys p q = absurd q
consumes_then (Some zs) (Some vs) (Some ws) xs ys p q = p ∙ ap (λ (l : List ℕ). xs ++ l) q ∙ sym (append_assoc xs ys ws)

-- What is read into the rest of the room, after what was read before.
pub read_more : (a b c : Option (List ℕ)) (room part : List ℕ) (done got : ℕ) → done ≤ length room → got ≤ length part
    → Consumes a b (take done room) → Consumes b c (take got part) → Consumes a c (take (done + got) (put_mid done (length room - done) room part))
read_more a b c room part done got h k p q =
    let post : List ℕ = drop (length room - done) (drop done room) in
    let l : length (take done room) ≡ done = length-take-le done room h in
    let e : take (done + got) (take done room ++ (part ++ post)) ≡ take done room ++ take got part =
    ap (λ (n : ℕ). take (n + got) (take done room ++ (part ++ post))) (sym l) ∙ take-append-add (take done room) (part ++ post) got ∙ ap (λ (x : List ℕ). take done room ++ x) (take-append-le got part post k) in
    subst (Consumes a c) (sym e) (consumes_then a b c (take done room) (take got part) p q)
