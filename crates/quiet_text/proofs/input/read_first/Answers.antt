use Rattle.std.proofs.Common.{arith, rules}
use Rattle.quiet_text.proofs.Reading.{read_more}
use Rattle.quiet_text.proofs.input.read_first.Goals as goal

pub loop-turn-preserved : goal.loop-turn-preserved
loop-turn-preserved g c =
    let l = c.loop-turn in
    record {
      low = omega arith;
      within = search rules;
      bytes = read_more _ _ _ l.room c.read.new.buf l.done c.in-Ok.got l.invariant.within (search rules) l.invariant.bytes c.in-Ok.ensures.bytes.0;
    }
