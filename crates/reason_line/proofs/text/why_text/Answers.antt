-- `reason_line::text::why_text` meets its contract: each case of the line has its own text, in room enough for any line.
use borrow.Author.Rules.{rules}
use Rattle.paper.specs.ReadingProgram.{text_of}
use Rattle.paper.specs.WhyProgram.{why_text}
use Rattle.ascii_text.proofs.Laid.{put-over}
use Rattle.reason_line.proofs.Words.{too_long_lem, by_checks}
use Rattle.reason_line.proofs.text.why_text.Goals as goal

pub returns-then-input-gt131072 : goal.returns-then-input-gt131072
unfolding text_of
returns-then-input-gt131072 c = rw (← too_long_lem _ _ c.if-input-gt131072.true) (let o = put-over c.put_word.ensures (search rules) in record { value = o.0; out_after = o.1.0; prefix_len = o.1.1 })

pub returns-in-Ok : goal.returns-in-Ok
unfolding why_text
returns-in-Ok c = rw (← by_checks _ _ c.if-input-gt131072.false c.in-Ok.ensures) (let o = put-over c.put_word-in-Ok.ensures (search rules) in record { value = o.0; out_after = o.1.0; prefix_len = o.1.1 })

pub returns-in-Err : goal.returns-in-Err
returns-in-Err c = rw (← by_checks _ _ c.if-input-gt131072.false c.in-Err.ensures) (let o = put-over c.put_reason.ensures (search rules) in record { value = o.0; out_after = o.1.0; prefix_len = o.1.1 })
