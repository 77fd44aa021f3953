use Rattle.cube.proofs.Bits.{one_shl}
use Rattle.cube.proofs.Inverting.{invert_masks, turned_clean}
use Rattle.cube.proofs.mask.inverted.Goals as goal

pub returns : goal.returns
returns c n h =
    let a = c.args in
    rw (one_shl a.i c.requires) (record {
      fits = record { small = h.small; clean = turned_clean a.c.care a.c.value a.i h.clean };
      is = invert_masks n a.c.care a.c.value a.i;
    })
