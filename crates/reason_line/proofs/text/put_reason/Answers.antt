-- `reason_line::text::put_reason` meets its contract: each piece in the room that begins where the previous one ended.
use lib.Dec.{lit≤}
use Rattle.ascii_text.proofs.Laid.{put-more, put_as}
use Rattle.reason_line.proofs.Words.{place_put, reason-is}
use Rattle.reason_line.proofs.text.put_reason.Goals as goal

pub returns : goal.returns
returns c =
    let place = place_put _ c.args.x.offset c.put_field.ensures.laid c.put_field.ensures.upper_bound c.place_words.ensures.words c.place_words.ensures.short in
    let end = put_as c.put_word.ensures c.end_words.ensures.words c.end_words.ensures.short in
    put_as (put-more (put-more c.put_refusal-a.ensures place) end) (reason-is _ _ _ c.field.ensures) (lit≤ tt)
