-- `request_line::text::put_front` meets its contract: each field in the room that begins where the previous one ended.
use mathlib.Core.Path.{refl}
use lib.Dec.{lit≤}
use Rattle.ascii_text.proofs.Laid.{put-laid, put_leaf, put-more, put_as}
use Rattle.request_line.proofs.text.put_front.Goals as goal

pub returns : goal.returns
returns c =
    put_as (put-more (put-more (put-more (put-laid (rw c.from.ensures at c.put_field-a.ensures.laid) c.put_field-a.ensures.upper_bound) (put-laid c.put_field.ensures.laid c.put_field.ensures.upper_bound)) (put_leaf c.put_bytes.ensures)) c.put_shown.ensures)
    refl (lit≤ tt)
