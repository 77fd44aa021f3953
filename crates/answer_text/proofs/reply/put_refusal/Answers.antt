use Rattle.refusal.specs.Answer.{told_by}
use Rattle.writing.proofs.Putting.{put_then}
use Rattle.answer_text.proofs.Replies.{refusal_put}
use Rattle.answer_text.proofs.reply.put_refusal.Goals as goal

pub returns : goal.returns
returns c =
    rw (← c.fields-fields.ensures) (refusal_put (told_by c.fields-fields.result)
    (put_then (put_then (put_then (put_then (put_then (put_then c.put_bytes-at.ensures
    (rw c.from.ensures at c.put_field-at.ensures.0))
    c.put_field-at-2.ensures.0)
    c.put_field-at-3.ensures.0)
    c.put_field-at-4.ensures.0)
    c.put_field-at-5.ensures.0)
    c.put_bytes.ensures))
