use lib.ListN.{replicate}
use Rattle.context.proofs.Values.{all_in, dont_cares}
use Rattle.context.proofs.unknown.dont_cares.Goals as goal

pub returns : goal.returns
returns c = let a = c.args in dont_cares a.zeros.now.words a.ones.now.words (replicate 16 18446744073709551615) c.without.result.words all_in c.without.ensures c.without-2.ensures
