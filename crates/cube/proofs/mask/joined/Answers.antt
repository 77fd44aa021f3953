use Rattle.cube.proofs.Bits.{and_again}
use Rattle.cube.proofs.Masks.{join_masks, keep, keep_lt}
use Rattle.cube.proofs.mask.joined.Goals as goal

pub returns : goal.returns
returns c n h =
    let a = c.args in
    record {
      fits = record {
        small = keep_lt n a.c.care a.c.value a.x h;
        clean = and_again a.c.value (keep a.c.care a.c.value a.x);
      };
      is = join_masks n _ _ _;
    }
