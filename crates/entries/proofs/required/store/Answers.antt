use Rattle.cube.proofs.Word.{packed_clean}
use Rattle.entries.proofs.Word.{word-required}
use Rattle.entries.proofs.Filling.{stored_word}
use Rattle.entries.proofs.required.store.Goals as goal

pub returns-clause-stored : goal.returns-clause-stored
returns-clause-stored c =
    let p = c.push.ensures in
    rw (p.stored, p.counted) (stored_word c.args.out.now.room.now c.args.out.now.next c.pack.result (packed_clean c.pack.ensures c.span_of.ensures c.requires.1) (word-required c.pack.ensures c.span_of.ensures))
