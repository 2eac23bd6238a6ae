-- `listing_text::import::usage_text` meets its contract: the text is put as it is, in room enough.
use borrow.Author.Rules.{rules}
use Rattle.ascii_text.proofs.Laid.{put_leaf, put-over}
use Rattle.listing_text.proofs.import.usage_text.Goals as goal

pub returns : goal.returns
returns c = let o = put-over (put_leaf c.put_bytes.ensures) (search rules) in record { value = o.0; out_after = o.1.0; prefix_len = o.1.1 }
