use mathlib.Core.Path.{◌≡◌, sym, ap, ◌∙◌}
use mathlib.Core.List.{List}
use Prim.Native.Nat.{ℕ, ◌+◌, ◌-◌, ◌*◌}
use native.Mathlib.Omega.{arith}
use lib.ListN.{length, take, drop, length-drop}
use lib.Seq.{length-take-le}
use Rattle.std.proofs.lemmas.Slice.{put_mid-paste}
use Rattle.std.proofs.lemmas.List.Edits.{length-paste}
use Rattle.cube.specs.Mask.{digits_of}
use Rattle.cube.proofs.Digits.{length_digits}
use Rattle.network_bytes.proofs.Writing.{writing_room, writing_step}
use Rattle.network_bytes.proofs.write.write_network.Goals as goal

pub loop-j-preserved : goal.loop-j-preserved
loop-j-preserved c =
    let l = c.loop-j in
    let n = c.args.n.count in
    let at = l.j * n in
    let e = c.cube_in.ensures in
    let p = c.cube_in.result in
    let room = writing_room l.invariant (omega arith) c.requires.1 in
    let part : at + n - at ≡ n = omega arith in
    let long : length (take (at + n - at) (drop at l.cover)) ≡ n = rw part (length-take-le n (drop at l.cover) (omega (arith, length-drop at l.cover, room, l.auto.cover))) in
    let digits : n ≡ length (digits_of n p.care p.value) = sym (length_digits n p.care p.value) in
    let pasted = put_mid-paste at (at + n - at) l.cover c.write_product.new.out (digits_of n p.care p.value) n (rw long at c.write_product.ensures) (sym part) digits in
    writing_step l.invariant (omega arith) c.requires.1 (pasted ∙ rw (e.0, e.1)) (ap (λ (o : List ℕ). length o) pasted ∙ length-paste l.cover at (digits_of n p.care p.value) n (omega (arith, room, l.auto.cover)) (omega (arith, digits)))
