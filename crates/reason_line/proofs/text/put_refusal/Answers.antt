-- `reason_line::text::put_refusal` meets its contract: each number in the room that begins where the previous one ended.
use borrow.Author.Rules.{rules}
use lib.Dec.{lit≤}
use Rattle.ascii_text.proofs.Laid.{put-laid, put-more, put_as}
use Rattle.reason_line.proofs.Words.{refusal_is}
use Rattle.reason_line.proofs.text.put_refusal.Goals as goal

pub returns : goal.returns
returns c =
    put_as
    (put-more (put-more (put-laid c.put_field-a.ensures.laid c.put_field-a.ensures.upper_bound) (put-laid c.put_field.ensures.laid c.put_field.ensures.upper_bound)) (put-laid c.put_field-2.ensures.laid c.put_field-2.ensures.upper_bound))
    (refusal_is (search rules) (search rules) (search rules)) (lit≤ tt)
