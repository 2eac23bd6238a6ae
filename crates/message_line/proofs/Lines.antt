-- What the program says of an input, by cases: too long, refused, or the line of its sort.
-- Assumes nothing.
use mathlib.Core.Path.{◌≡◌, refl, sym, ap, ap₂, ◌∙◌}
use Prim.Native.Nat.{ℕ, suc, ◌+◌, ◌-◌, ◌≤◌, ◌<◌}
use mathlib.Core.Bool.{Bool, true, false}
use mathlib.Core.List.{List, [], ◌∷◌}
use native.Mathlib.Omega.{arith}
use borrow.Author.Tests.{lt-leb, le-leb}
use lib.ListN.{length, drop, length-drop}
use Rattle.std.specs.Prelude.{Option, Some, None, Ok, Err}
use Rattle.paper.specs.Answer.{Answer, accepted, ◌leaving◌, over, written}
use Rattle.std.specs.Int.{from_bool}
use Rattle.paper.specs.Choice.{pick}
use Rattle.paper.specs.Bytes.{Bytes}
use Rattle.paper.specs.Kind.{mode_of}
use Rattle.paper.specs.Request.{Request, after_name, write_request, request_bytes}
use Rattle.paper.specs.Response.{Response, after_mode, write_response, response_bytes}
use Rattle.paper.specs.ReadingProgram.{format_shown, too_long, bad, ascii, text_of}
use Rattle.paper.specs.WholeMessage.{Sort, file_request, file_response, service_byte, a_file_request, a_file_response, read_message, led}
use Rattle.paper.specs.MessageProgram.{request_text, response_text, response_format, answer_text, message_line}
use Rattle.io.specs.Counts.{IsPrefixLen}
use Rattle.form.specs.Text.{Grew}
use Rattle.form.proofs.Grown.{whole}
use Rattle.paper.proofs.Request as request-laws
use Rattle.paper.proofs.Response as response-laws
use Rattle.paper.proofs.WholeMessage.{file-request-read, file-response-read, request_message_layout, response_message_layout}
use Rattle.wire.specs.Place.{bytes_at}
use Rattle.wire.specs.Refusals.{row}
use Rattle.wire.specs.declared.refusal.Refusal.{Refusal}
use Rattle.wire.specs.declared.place.Place.{Place}
use Rattle.wire.proofs.Unique.{place_back}
use Rattle.request_file_transfer.specs.Reading as request
use Rattle.request_file_transfer.specs.declared.read.RequestFileTransferRequest.{RequestFileTransferRequest}
use Rattle.request_file_transfer_response.specs.Reading as response
use Rattle.request_file_transfer_response.specs.declared.read.RequestFileTransferResponse.{RequestFileTransferResponse}
use Rattle.routine_control.specs.declared.request.RoutineControlRequest.{RoutineControlRequest}
use Rattle.routine_control.specs.declared.response.RoutineControlResponse.{RoutineControlResponse}
use Rattle.message.specs.Reading.{MessageRight}
use Rattle.message.specs.declared.negative.NegativeAnswer.{NegativeAnswer}
use Rattle.message.specs.declared.read.Message.{Message}
use Rattle.message_line.specs.Text.{shown_of, filled_by, needed_in, request_normal, response_normal, request_line, response_line, routine_request_line, routine_response_line, negative_line}

-- a line is put from the start of a buffer with room enough for it
pub put_line : (s : List ℕ) {line old new : List ℕ} {r : ℕ} → length old ≡ 4096 → line ≡ message_line s → Grew line 200 0 old r new
    → (r ≡ length (message_line s)) × ((new ≡ over (message_line s) old) × IsPrefixLen r new)
put_line s room is put = rw (← is) (whole put (omega arith))

-- a bit as a number
pub bit : (b : Bool) → from_bool b ≡ pick b 1 0
bit true = refl
bit false = refl

-- what is put by the two forms of a request's line is the line, and so is a response's
pub request_put : (format : Option ℕ) (kind name normal left : ℕ) (old : List ℕ) (r : ℕ) (new : List ℕ)
    → Grew (filled_by (ascii "request kind _ name _ format _ normal _ left _\n") (ascii "request kind _ name _ format - normal _ left _\n") kind name normal left format) 200 0 old r new
    → Grew (request_text (shown_of format) kind name normal left) 200 0 old r new
request_put (Some f) kind name normal left old r new put = put
request_put None kind name normal left old r new put = put

pub response_put : (format : Option ℕ) (kind block normal left : ℕ) (old : List ℕ) (r : ℕ) (new : List ℕ)
    → Grew (filled_by (ascii "response kind _ block _ format _ normal _ left _\n") (ascii "response kind _ block _ format - normal _ left _\n") kind block normal left format) 200 0 old r new
    → Grew (response_text (shown_of format) kind block normal left) 200 0 old r new
response_put (Some f) kind block normal left old r new put = put
response_put None kind block normal left old r new put = put

pub too_long_lem : (s : List ℕ) → 4096 < length s → text_of too_long ≡ message_line s
unfolding message_line
too_long_lem s h = rw (lt-leb _ _ h)

-- it is not: the reader's answer decides
by_answer : (s : List ℕ) → length s ≤ 4096 → answer_text (read_message s) ≡ message_line s
unfolding message_line
by_answer s h = rw (le-leb _ _ h)

-- what a writer that accepts says of a room that has no byte
needed_is : (k : Sort) (o : Answer (List ℕ)) (u : List ℕ) → o ≡ accepted u → needed_in (written (led k o) []).answer ≡ length (service_byte k ∷ u)
needed_is k o u e = rw (e, lt-leb (suc (length u)) 0 (omega arith))

-- what was read can be written
request-normal : (s : List ℕ) (m : Request) (t : List ℕ) → Bytes s → accepted (a_file_request m leaving t) ≡ read_message s → write_request m ≡ accepted (request_bytes m)
request-normal s m t bytes read =
    let (u, way, joined) = (request_message_layout s m t bytes).0 ((file-request-read s m t).0 (sym read)) in
    let w = way.way in
    (request-laws.write_read m (rw w.plain w.writable)).0

response-normal : (s : List ℕ) (m : Response) (t : List ℕ) → Bytes s → accepted (a_file_response m leaving t) ≡ read_message s → write_response m ≡ accepted (response_bytes m)
response-normal s m t bytes read =
    let (u, way, joined) = (response_message_layout s m t bytes).0 ((file-response-read s m t).0 (sym read)) in
    let w = way.way in
    (response-laws.write_read m (rw w.plain w.writable)).0

place_length : (s : List ℕ) (p : Place) → p.start + p.len ≤ length s → length (bytes_at s p) ≡ p.len
place_length s p h = ap Place.len (place_back s p refl h)

module _ (s : List ℕ) (short : length s ≤ 4096) where
  pub refused_line : {e : Refusal} → MessageRight s (Err e) → text_of (bad (row e)) ≡ message_line s
  refused_line right = ap answer_text right.paper ∙ by_answer s short

  pub negative-line : (q : NegativeAnswer) → MessageRight s (Ok (Message.Negative q)) → negative_line q ≡ message_line s
  negative-line q right = ap answer_text right.paper ∙ by_answer s short

  pub routine-request-line : (q : RoutineControlRequest) → MessageRight s (Ok (Message.RoutineRequest q)) → routine_request_line q ≡ message_line s
  routine-request-line q right =
      let p = right.place in
      rw (← place_length s q.option_record (omega (arith, p.0, p.1))) (ap answer_text right.paper ∙ by_answer s short)

  pub routine-response-line : (q : RoutineControlResponse) → MessageRight s (Ok (Message.RoutineResponse q)) → routine_response_line q ≡ message_line s
  routine-response-line q right =
      let p = right.place in
      rw (← place_length s q.status_record (omega (arith, p.0, p.1))) (ap answer_text right.paper ∙ by_answer s short)

  module _ (bytes : Bytes s) where
    pub request-line : (q : RequestFileTransferRequest) (tail : ℕ) → MessageRight s (Ok (Message.FileRequest q tail)) → request_line s q tail ≡ message_line s
    request-line q tail right =
        let m = request.meant s q in
        let p = right.place in
        let format = format_shown (after_name m.kind) m.format in
        let name = place_length s q.file_path_and_name (omega (arith, p.begins, p.ends)) in
        let normal = needed_is file_request (write_request m) (request_bytes m) (request-normal s m (drop tail s) bytes right.paper) in
        ap (λ (n : ℕ). request_text format (mode_of m.kind) n (request_normal s q) (length s - tail)) (sym name)
        ∙ ap₂ (λ (n l : ℕ). request_text format (mode_of m.kind) (length m.name) n l) normal (sym (length-drop tail s)) ∙ ap answer_text right.paper ∙ by_answer s short

    pub response-line : (q : RequestFileTransferResponse) (tail : ℕ) → MessageRight s (Ok (Message.FileResponse q tail)) → response_line s q tail ≡ message_line s
    response-line q tail right =
        let m = response.meant s q in
        let p = right.place in
        let format = response_format (after_mode m.kind) m.format in
        let block = place_length s q.max_number_of_block_length p.ends in
        let normal = needed_is file_response (write_response m) (response_bytes m) (response-normal s m (drop tail s) bytes right.paper) in
        ap (λ (n : ℕ). response_text format (mode_of m.kind) n (response_normal s q) (length s - tail)) (sym block)
        ∙ ap₂ (λ (n l : ℕ). response_text format (mode_of m.kind) (length m.block) n l) normal (sym (length-drop tail s)) ∙ ap answer_text right.paper ∙ by_answer s short
