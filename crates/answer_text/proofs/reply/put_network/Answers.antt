use native.Mathlib.Omega.{arith}
use Rattle.writing.proofs.Putting.{number_most, put_then}
use Rattle.answer_text.proofs.Replies.{lines_most, network_put}
use Rattle.answer_text.proofs.reply.put_network.Goals as goal

pub put_products-requires : goal.put_products-requires
put_products-requires c =
    (c.requires.0, omega (arith, number_most c.args.count c.put_number-at.ensures, lines_most c.args.n c.args.count c.requires.1 c.requires.2), c.requires.1, c.requires.2)

pub returns : goal.returns
returns c = network_put c.args.count _ (put_then (put_then (put_then c.put_bytes-at.ensures c.put_number-at.ensures) c.put_bytes-at-2.ensures) c.put_products.ensures)
