use Rattle.blocks.specs.Blocks.{allowed_to}
use Rattle.rows.proofs.Splitting.{split_is}
use Rattle.rows.proofs.split.split.Goals as goal

pub returns : goal.returns
returns c =
    let n = c.narrow in
    let k = c.copy_into in
    split_is (λ x. allowed_to c.args.columns.now x c.args.c c.args.n.count) c.args.set.now k.new.to n.new.rows c.remove.new.set k.ensures n.auto.rows n.ensures c.remove.ensures
