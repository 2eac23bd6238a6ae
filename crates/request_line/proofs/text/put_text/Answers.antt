-- `request_line::text::put_text` meets its contract: each case of the line has its own text, in room enough for any line.
use borrow.Author.Rules.{rules}
use Rattle.paper.specs.ReadingProgram.{text_of}
use Rattle.ascii_text.proofs.Laid.{put-laid, put_leaf, put-over}
use Rattle.request_line.proofs.text.put_text.Goals as goal

pub returns-in-TooLong : goal.returns-in-TooLong
unfolding text_of
returns-in-TooLong c = rw c.in-TooLong.is (let p = put-over (put_leaf c.put_bytes.ensures) (search rules) in record { value = p.0; out_after = p.1.0; prefix_len = p.1.1 })

pub returns-in-Accepted : goal.returns-in-Accepted
returns-in-Accepted c = rw c.in-Accepted.is (let p = put-over c.put_accepted.ensures (search rules) in record { value = p.0; out_after = p.1.0; prefix_len = p.1.1 })

pub returns-in-Refused : goal.returns-in-Refused
returns-in-Refused c = rw c.in-Refused.is (let p = put-over (put-laid c.put_refused.ensures.laid c.put_refused.ensures.upper_bound) (search rules) in record { value = p.0; out_after = p.1.0; prefix_len = p.1.1 })
