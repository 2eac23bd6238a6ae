-- `ascii_text::lay_refused` meets its contract: each field in the room that begins where the previous one ended.
use borrow.Author.Rules.{rules}
use lib.Dec.{lit≤}
use Rattle.ascii_text.proofs.Laid.{put-laid, put_leaf, put-more, put_as, bad-is}
use Rattle.ascii_text.proofs.lay_refused.Goals as goal

pub returns : goal.returns
returns c =
    put_as (put-more (put-more (put-more (put-laid c.put_field-a.ensures.laid c.put_field-a.ensures.upper_bound) (put-laid c.put_field.ensures.laid c.put_field.ensures.upper_bound)) (put-laid c.put_field-2.ensures.laid c.put_field-2.ensures.upper_bound)) (put_leaf c.put_byte.ensures))
    (bad-is (search rules) (search rules) (search rules)) (lit≤ tt)
