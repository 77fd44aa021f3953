use mathlib.Core.Path.{◌≡◌}
use Prim.Native.Nat.{◌-◌, ◌*◌, ◌%◌, ◌^◌}
use native.Mathlib.Omega.{arith}
use lib.Pow.{pow_pos}
use Rattle.cube.proofs.Bits.{one_shl, and_again}
use Rattle.cube.proofs.Masks.{span_masks, same, same-lt}
use Rattle.cube.proofs.mask.span_of.Goals as goal

pub returns : goal.returns
returns c =
    let a = c.args in
    let e : (1 * 2 ^ a.n.count) % 2 ^ 16 - 1 ≡ 2 ^ a.n.count - 1 = omega (arith, one_shl a.n.count (omega arith)) in
    record {
      fits = record {
        small = same-lt a.n.count _ a.p a.q e c.requires.0 c.requires.1;
        clean = and_again a.p (same ((1 * 2 ^ a.n.count) % 2 ^ 16 - 1) a.p a.q);
      };
      is = span_masks a.n.count _ a.p a.q e;
    }
