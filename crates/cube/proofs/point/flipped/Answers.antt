use mathlib.Core.Path.{ap, ◌∙◌}
use lib.Bits.{bit_xor}
use Rattle.cube.proofs.Bits.{one_shl}
use Rattle.cube.proofs.Points.{flip-xor}
use Rattle.cube.proofs.point.flipped.Goals as goal

pub returns : goal.returns
returns c = ap (bit_xor c.args.x) (one_shl c.args.i c.requires) ∙ flip-xor c.args.x c.args.i
