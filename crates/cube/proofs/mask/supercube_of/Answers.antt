use Rattle.cube.proofs.Bits.{and_again}
use Rattle.cube.proofs.Masks.{supercube_masks, shared, shared_lt}
use Rattle.cube.proofs.mask.supercube_of.Goals as goal

pub returns : goal.returns
returns c n h =
    let a = c.args in
    record {
      fits = record {
        small = shared_lt n a.c.care a.c.value a.d.care a.d.value h;
        clean = and_again a.c.value (shared a.c.care a.c.value a.d.care a.d.value);
      };
      is = supercube_masks n a.c.care a.c.value a.d.care a.d.value;
    }
