-- `listing_text::export::export_text` meets its contract: it is too long, or the lines and the refusal have their text, in room enough.
use borrow.Author.Rules.{rules}
use Rattle.paper.specs.ReadingProgram.{text_of}
use Rattle.ascii_text.proofs.Laid.{put_leaf, put-over}
use Rattle.listing_text.proofs.Answers.{export-long, export-judged}
use Rattle.listing_text.proofs.export.export_text.Goals as goal

pub returns-then-listing-gt65536 : goal.returns-then-listing-gt65536
unfolding text_of
returns-then-listing-gt65536 c = rw (← export-long c.args.listing.now c.if-listing-gt65536.true) (let o = put-over (put_leaf c.put_bytes.ensures) (search rules) in record { value = o.0; out_after = o.1.0; prefix_len = o.1.1 })

pub returns : goal.returns
returns c = rw (← export-judged c.args.listing.now c.if-listing-gt65536.false) (let o = put-over c.put_lines.ensures (search rules) in record { value = o.0; out_after = o.1.0; prefix_len = o.1.1 })
