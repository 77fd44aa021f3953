use Rattle.writing.proofs.Printing.{put_cell, put_line}
use Rattle.writing.proofs.put.put_product.Goals as goal
use Rattle.std.proofs.Common.{arith}

pub loop-i-preserved : goal.loop-i-preserved
loop-i-preserved c = put_cell c.args.product.now c.loop-i.invariant (omega arith) (omega arith) c.cell_of.ensures

pub returns : goal.returns
returns c = put_line c.args.product.now c.loop-i.invariant (omega arith) (omega arith)
