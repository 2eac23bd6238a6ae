-- The record of a whole message that was read, by sort.
-- Assumes nothing.
use mathlib.Core.Path.{◌≡◌, refl, ap, ◌∙◌}
use Prim.Native.Nat.{ℕ, ◌+◌, ◌≤◌}
use mathlib.Core.List.{List}
use native.Mathlib.Omega.{arith}
use lib.Arith.{digits_div, digits_mod}
use lib.ListN.{length}
use Rattle.std.specs.Prelude.{Result, Ok, Err}
use Rattle.paper.specs.Response.{AfterMode, ended, block_and_format, after_mode}
use Rattle.paper.specs.WholeMessage.{read_message}
use Rattle.wire.specs.Refusals.{row}
use Rattle.wire.specs.declared.refusal.Refusal.{Refusal}
use Rattle.wire.specs.Place.{bytes_at}
use Rattle.wire.specs.declared.place.Place.{Place}
use Rattle.wire.proofs.Unique.{tail_back, place_back}
use Rattle.file_operation.specs.Mode.{kind_of}
use Rattle.request_file_transfer.specs.declared.read.RequestFileTransferRequest.{RequestFileTransferRequest}
use Rattle.request_file_transfer_response.specs.Reading.{block_start}
use Rattle.request_file_transfer_response.specs.declared.read.RequestFileTransferResponse.{RequestFileTransferResponse}
use Rattle.message.specs.Reading.{message_said, RequestPlaced, ResponsePlaced, MessageRight}
use Rattle.message.specs.declared.read.Message.{Message}
use Rattle.station.specs.Flat.{RecordOf}
use Rattle.archive.specs.Messages.{block_begins_at, refused_message, message_record, accepted_message}
use Rattle.archive.specs.declared.messages.MessageRecord.{MessageRecord}

-- how many bytes stand at a place within the message
place_length : (s : List ℕ) (p : Place) → p.start + p.len ≤ length s → length (bytes_at s p) ≡ p.len
place_length s p h = ap (λ (x : Place). x.len) (place_back s p refl h)

request_record : (s : List ℕ) (q : RequestFileTransferRequest) (tail : ℕ) → RequestPlaced s q tail
    → accepted_message (Message.FileRequest q tail) ≡ message_record (length s) (message_said s (Ok (Message.FileRequest q tail)))
request_record s q tail h =
    let u = q.size.file_size_uncompressed in
    let c = q.size.file_size_compressed in
    rw (
      place_length s q.file_path_and_name (omega (arith, h.begins, h.ends)),
      h.begins,
      digits_div u.high h.halves.0,
      digits_mod u.high h.halves.0,
      digits_div c.high h.halves.1,
      digits_mod c.high h.halves.1,
      tail_back s tail h.within,
    )

-- where the block length begins
block-begins : (h : AfterMode) → block_start h 2 ≡ block_begins_at h
block-begins ended = refl
block-begins (block_and_format more) = refl

response_record : (s : List ℕ) (q : RequestFileTransferResponse) (tail : ℕ) → ResponsePlaced s q tail
    → accepted_message (Message.FileResponse q tail) ≡ message_record (length s) (message_said s (Ok (Message.FileResponse q tail)))
response_record s q tail h =
    let u = q.file_size.file_size_uncompressed in
    let c = q.file_size.file_size_compressed in
    rw (
      place_length s q.max_number_of_block_length h.ends,
      h.begins,
      block-begins (after_mode (kind_of q.kind)),
      digits_div u.high h.halves.0,
      digits_mod u.high h.halves.0,
      digits_div c.high h.halves.1,
      digits_mod c.high h.halves.1,
      tail_back s tail h.within,
    )

-- each answer says what its record holds
accepted_said : (s : List ℕ) (m : Message) → MessageRight s (Ok m) → accepted_message m ≡ message_record (length s) (message_said s (Ok m))
accepted_said s (Message.FileRequest q tail) right = request_record s q tail right.place
accepted_said s (Message.RoutineRequest q) right =
    let p = right.place in
    rw (place_length s q.option_record (omega (arith, p.0, p.1)), p.0)
accepted_said s (Message.FileResponse q tail) right = response_record s q tail right.place
accepted_said s (Message.RoutineResponse q) right =
    let p = right.place in
    rw (place_length s q.status_record (omega (arith, p.0, p.1)), p.0)
accepted_said s (Message.Negative q) right = refl

-- the record of an answer that is right is that of the paper's
pub message_flat : (s : List ℕ) (a : Result Message Refusal) {r : MessageRecord}
    → MessageRight s a → RecordOf (λ m r. r ≡ accepted_message m) (λ e r. r ≡ refused_message (row e)) a r → r ≡ message_record (length s) (read_message s)
message_flat s (Ok m) right is = is ∙ accepted_said s m right ∙ ap (message_record (length s)) right.paper
message_flat s (Err e) right is = is ∙ ap (message_record (length s)) right.paper
