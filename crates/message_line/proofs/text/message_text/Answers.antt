-- `message_line::text::message_text` meets its contract: too long, the line of the sort, or the refusal, each in room enough for it.
use Rattle.paper.specs.ReadingProgram.{text_of}
use Rattle.paper.proofs.Places.{bytes_of}
use Rattle.ascii_text.proofs.Laid.{put_leaf, put-laid, put-over}
use Rattle.message.specs.Reading.{MessageRight}
use Rattle.message_line.proofs.Lines.{put_line, too_long_lem, refused_line, negative-line, routine-request-line, routine-response-line, request-line, response-line}
use borrow.Author.Rules.{rules}
use Rattle.message_line.proofs.text.message_text.Goals as goal

pub returns-then-input-gt4096 : goal.returns-then-input-gt4096
unfolding text_of
returns-then-input-gt4096 c =
    let o = put-over (put_leaf c.put_bytes.ensures) (search rules) in
    rw (← too_long_lem _ c.if-input-gt4096.true) (record { value = o.0; out_after = o.1.0; prefix_len = o.1.1 })

pub returns-in-Ok-FileRequest : goal.returns-in-Ok-FileRequest
returns-in-Ok-FileRequest c =
    let s = c.args.input.now in
    let right : MessageRight s _ = rw c.in-Ok-FileRequest.field-0-is at c.in-Ok-FileRequest.ensures in
    let o = put_line s (search rules) (request-line s c.if-input-gt4096.false (bytes_of s (λ i. (c.type_inv.input i).fits)) c.in-Ok-FileRequest.q c.in-Ok-FileRequest.tail right) c.file_request.ensures in
    record { value = o.0; out_after = o.1.0; prefix_len = o.1.1 }

pub returns-in-Ok-RoutineRequest : goal.returns-in-Ok-RoutineRequest
returns-in-Ok-RoutineRequest c =
    let s = c.args.input.now in
    let right : MessageRight s _ = rw c.in-Ok-RoutineRequest.field-0-is at c.in-Ok-RoutineRequest.ensures in
    let o = put_line s (search rules) (routine-request-line s c.if-input-gt4096.false c.in-Ok-RoutineRequest.q right) c.routine_request.ensures in
    record { value = o.0; out_after = o.1.0; prefix_len = o.1.1 }

pub returns-in-Ok-FileResponse : goal.returns-in-Ok-FileResponse
returns-in-Ok-FileResponse c =
    let s = c.args.input.now in
    let right : MessageRight s _ = rw c.in-Ok-FileResponse.field-0-is at c.in-Ok-FileResponse.ensures in
    let o = put_line s (search rules) (response-line s c.if-input-gt4096.false (bytes_of s (λ i. (c.type_inv.input i).fits)) c.in-Ok-FileResponse.q c.in-Ok-FileResponse.tail right) c.file_response.ensures in
    record { value = o.0; out_after = o.1.0; prefix_len = o.1.1 }

pub returns-in-Ok-RoutineResponse : goal.returns-in-Ok-RoutineResponse
returns-in-Ok-RoutineResponse c =
    let s = c.args.input.now in
    let right : MessageRight s _ = rw c.in-Ok-RoutineResponse.field-0-is at c.in-Ok-RoutineResponse.ensures in
    let o = put_line s (search rules) (routine-response-line s c.if-input-gt4096.false c.in-Ok-RoutineResponse.q right) c.routine_response.ensures in
    record { value = o.0; out_after = o.1.0; prefix_len = o.1.1 }

pub returns-in-Ok-Negative : goal.returns-in-Ok-Negative
returns-in-Ok-Negative c =
    let s = c.args.input.now in
    let right : MessageRight s _ = rw c.in-Ok-Negative.field-0-is at c.in-Ok-Negative.ensures in
    let o = put_line s (search rules) (negative-line s c.if-input-gt4096.false c.in-Ok-Negative.q right) c.negative.ensures in
    record { value = o.0; out_after = o.1.0; prefix_len = o.1.1 }

pub returns-in-Err : goal.returns-in-Err
returns-in-Err c =
    let o = put-over (put-laid c.put_refused.ensures.laid c.put_refused.ensures.upper_bound) (search rules) in
    rw (← refused_line c.args.input.now c.if-input-gt4096.false c.in-Err.ensures) (record { value = o.0; out_after = o.1.0; prefix_len = o.1.1 })
