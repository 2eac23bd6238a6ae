-- What the answer about a whole message says, in the paper's terms; the meaning of a record is taken over the whole message's bytes.
use Rattle.std.specs.Prelude.{◌≡◌, ℕ, ◌+◌, ◌≤◌, List, [], length, drop, eqb, Result, Ok, Err}
use Rattle.paper.specs.Choice.{pick}
use Rattle.paper.specs.Answer.{Answer, accepted, refused, Read, ◌leaving◌}
use Rattle.paper.specs.Response.{after_mode}
use Rattle.paper.specs.WholeMessage as paper
use Rattle.paper.specs.WholeMessage.{WholeMessage, a_file_request, a_routine_request, a_file_response, a_routine_response, a_negative_answer, Negative, read_after_service, read_message}
use Rattle.wire.specs.Refusals.{row}
use Rattle.wire.specs.declared.place.Place.{Place}
use Rattle.wire.specs.declared.refusal.Refusal.{Refusal}
use Rattle.file_operation.specs.Mode.{kind_of}
use Rattle.request_file_transfer.specs.Reading as request
use Rattle.request_file_transfer.specs.declared.read.RequestFileTransferRequest.{RequestFileTransferRequest}
use Rattle.request_file_transfer_response.specs.Reading as response
use Rattle.request_file_transfer_response.specs.Reading.{block_start}
use Rattle.request_file_transfer_response.specs.declared.read.RequestFileTransferResponse.{RequestFileTransferResponse}
use Rattle.routine_control.specs.Request.{request_meant}
use Rattle.routine_control.specs.Response.{response_meant}
use Rattle.message.specs.Service.{service_of}
use Rattle.message.specs.declared.negative.NegativeAnswer.{NegativeAnswer}
use Rattle.message.specs.declared.read.Message.{Message}

-- ---- places behind the service byte, counted in the whole message
abbrev pub place_on : Place → Place
place_on p = record { start = p.start + 1; len = p.len }

-- where a kind has no block length, its place stays the empty one at 0
abbrev pub block_on : Place → Place
block_on p = pick (eqb p.start 0) p (place_on p)

-- ---- what an answer says
abbrev pub negative_meant : NegativeAnswer → Negative
negative_meant q = record { service = service_of q.service; code = q.code; listed = q.listed }

-- the sort, what its record means, and the tail; or the refusal's number and values
abbrev pub message_said : List ℕ → Result Message Refusal → Answer (Read WholeMessage)
message_said s (Ok (Message.FileRequest q tail)) = accepted (a_file_request (request.meant s q) leaving drop tail s)
message_said s (Ok (Message.RoutineRequest q)) = accepted (a_routine_request (request_meant s q) leaving [])
message_said s (Ok (Message.FileResponse q tail)) = accepted (a_file_response (response.meant s q) leaving drop tail s)
message_said s (Ok (Message.RoutineResponse q)) = accepted (a_routine_response (response_meant s q) leaving [])
message_said s (Ok (Message.Negative q)) = accepted (a_negative_answer (negative_meant q) leaving [])
message_said s (Err e) = refused (row e)

-- ---- where things stand in the whole message s
-- the name begins at 4 and lies within the message, and the tail begins within it
pub record RequestPlaced (s : List ℕ) (q : RequestFileTransferRequest) (tail : ℕ) : Type 0 where
  pub begins : q.file_path_and_name.start ≡ 4
  pub ends : 4 + q.file_path_and_name.len ≤ length s
  pub halves : request.Halves q.size
  pub within : tail ≤ length s

-- the block length begins at 3, or is the empty place at 0, and lies within the message; the tail begins within it
pub record ResponsePlaced (s : List ℕ) (q : RequestFileTransferResponse) (tail : ℕ) : Type 0 where
  pub begins : q.max_number_of_block_length.start ≡ block_start (after_mode (kind_of q.kind)) 2
  pub ends : q.max_number_of_block_length.start + q.max_number_of_block_length.len ≤ length s
  pub halves : response.Halves q.file_size
  pub within : tail ≤ length s

-- the record is the whole rest after the service byte and the three routine bytes
abbrev pub RecordPlaced : List ℕ → Place → Type 0
RecordPlaced s p = (p.start ≡ 4) × (4 + p.len ≡ length s)

abbrev pub message_placed : List ℕ → Result Message Refusal → Type 0
message_placed s (Ok (Message.FileRequest q tail)) = RequestPlaced s q tail
message_placed s (Ok (Message.RoutineRequest q)) = RecordPlaced s q.option_record
message_placed s (Ok (Message.FileResponse q tail)) = ResponsePlaced s q tail
message_placed s (Ok (Message.RoutineResponse q)) = RecordPlaced s q.status_record
message_placed s (Ok (Message.Negative q)) = Unit {0}
message_placed s (Err e) = Unit {0}

-- the answer r about the message s, which begins with the service byte of the sort k, is the paper's
pub record SortRight (k : paper.Sort) (s : List ℕ) (r : Result Message Refusal) : Type 0 where
  pub paper : message_said s r ≡ read_after_service k (drop 1 s)
  pub place : message_placed s r

-- the answer r about the message s is the paper's
pub record MessageRight (s : List ℕ) (r : Result Message Refusal) : Type 0 where
  pub paper : message_said s r ≡ read_message s
  pub place : message_placed s r
