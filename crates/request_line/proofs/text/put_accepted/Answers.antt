-- `request_line::text::put_accepted` meets its contract: each field in the room that begins where the previous one ended.
use lib.Dec.{lit≤}
use Rattle.ascii_text.proofs.Laid.{put-laid, put_leaf, put-more, put_as}
use Rattle.request_line.proofs.Laid.{good-is}
use Rattle.request_line.proofs.text.put_accepted.Goals as goal

pub returns : goal.returns
returns c =
    put_as (put-more (put-more (put-more c.put_front-d.ensures (put-laid c.put_field.ensures.laid c.put_field.ensures.upper_bound)) (put-laid c.put_field-2.ensures.laid c.put_field-2.ensures.upper_bound)) (put_leaf c.put_byte.ensures))
    (good-is _ _ _ _ _) (lit≤ tt)
