use Rattle.std.proofs.Common.{◌+◌, ◌≤◌, arith}
use Rattle.std.proofs.Math.Nat.{mul-le-mul_right, add-mul}
use Rattle.writing.proofs.Printing.{put_lines, lines_place}
use Rattle.writing.proofs.put.put_products.Goals as goal

pub loop-j-preserved : goal.loop-j-preserved
loop-j-preserved c =
    let a = c.args in
    let l = c.loop-j in
    let w = c.put_product-at.ensures in
    let few : l.j + 1 ≤ a.count = omega arith in
    let place = lines_place a.n l.j a.products.now (omega (arith, mul-le-mul_right a.n few, c.requires.0)) w.counted in
    record { put = put_lines a.n l.j a.products.now l.invariant.put w; place = omega (arith, place, l.invariant.place, add-mul l.j 1 (a.n + 1)) }
