use Rattle.cube.proofs.Bits.{one_shl, and_again}
use Rattle.cube.proofs.Masks.{raise_masks, without, without-lt}
use Rattle.cube.proofs.mask.raised.Goals as goal

pub returns : goal.returns
returns c n h =
    let a = c.args in
    rw (one_shl a.i c.requires) (record {
      fits = record { small = without-lt n a.c.care a.i h; clean = and_again a.c.value (without a.c.care a.i) };
      is = raise_masks n a.c.care a.c.value a.i;
    })
