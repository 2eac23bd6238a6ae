-- No second answer, and no second final contents of a buffer, meets a contract of this crate: the message, or what is handed over to be written and the buffer, settles it.
-- Assumes nothing.
use mathlib.Core.Path.{◌≡◌, refl, sym, ap, ap₂, ◌∙◌}
use Prim.Native.Nat.{ℕ, ◌-◌}
use mathlib.Core.Bool.{Bool}
use mathlib.Core.List.{List}
use native.Mathlib.Omega.{arith}
use lib.ListN.{length}
use Rattle.std.specs.Prelude.{Result, Ok, Err}
use Rattle.paper.specs.Answer.{Answer, accepted, refused, Read, ◌leaving◌}
use Rattle.paper.specs.Request.{Request}
use Rattle.paper.specs.Response.{Response, after_mode}
use Rattle.paper.specs.WholeMessage as paper
use Rattle.paper.specs.WholeMessage.{file_request, routine_request, file_response, routine_response, negative_answer, file_transfer, routine_control}
use Rattle.paper.specs.WholeMessage.{WholeMessage, a_file_request, a_routine_request, a_file_response, a_routine_response, a_negative_answer, read_message}
use Rattle.wire.specs.declared.place.Place.{Place}
use Rattle.wire.specs.declared.refusal.Refusal.{Refusal}
use Rattle.wire.proofs.Refusals.{refusal_back, refusal-back}
use Rattle.wire.proofs.Unique.{Determined, tail_back, place_of, place_back}
use Rattle.wire.proofs.UniqueWriting.{WritesOnce, wrote_once}
use Rattle.file_operation.proofs.Unique.{kind_back, kind-back, format_of, sizes_back, sizes-back, file_sizes_back, file-sizes-back}
use Rattle.request_file_transfer.specs.Reading as request
use Rattle.request_file_transfer.specs.declared.read.RequestFileTransferRequest.{RequestFileTransferRequest}
use Rattle.request_file_transfer_response.specs.Reading as response
use Rattle.request_file_transfer_response.specs.Reading.{block_start}
use Rattle.request_file_transfer_response.specs.declared.read.RequestFileTransferResponse.{RequestFileTransferResponse}
use Rattle.routine_control.specs.declared.sub_function.RoutineControlSubFunction.{RoutineControlSubFunction}
use Rattle.routine_control.proofs.Unique.{sub_back, sub_back_lem}
use Rattle.message.specs.Service.{sort_said, service_of, service_said}
use Rattle.message.specs.Reading.{message_said, message_placed, RequestPlaced, ResponsePlaced, MessageRight}
use Rattle.message.specs.declared.service.Sort.{Sort}
use Rattle.message.specs.declared.service.Service.{Service}
use Rattle.message.specs.declared.read.Message.{Message}
use Rattle.message.proofs.service.SortTryFromU8 as sort_of_byte
use Rattle.message.proofs.service.U8FromSort as byte_of_sort
use Rattle.message.proofs.service.ServiceTryFromU8 as service_of_byte
use Rattle.message.proofs.service.U8FromService as byte_of_service
use Rattle.message.proofs.service.Sort.from_byte.Kinds as sort-from-byte-kinds
use Rattle.message.proofs.service.Sort.from_byte.Reads as sort-from-byte
use Rattle.message.proofs.service.Sort.value.Kinds as sort-value-kinds
use Rattle.message.proofs.service.Sort.value.Reads as sort-value
use Rattle.message.proofs.service.Service.from_byte.Kinds as service-from-byte-kinds
use Rattle.message.proofs.service.Service.from_byte.Reads as service-from-byte
use Rattle.message.proofs.service.Service.value.Kinds as service-value-kinds
use Rattle.message.proofs.service.Service.value.Reads as service-value
use Rattle.message.proofs.negative.is_listed.Kinds as is-listed-kinds
use Rattle.message.proofs.negative.is_listed.Reads as is-listed
use Rattle.message.proofs.negative.write_negative.Kinds as write-negative-kinds
use Rattle.message.proofs.negative.write_negative.Reads as write-negative
use Rattle.message.proofs.read.read_message.Kinds as read-message-kinds
use Rattle.message.proofs.read.read_message.Reads as read-message
use Rattle.message.proofs.write.write_request_message.Kinds as write-request-message-kinds
use Rattle.message.proofs.write.write_request_message.Reads as write-request-message
use Rattle.message.proofs.write.write_response_message.Kinds as write-response-message-kinds
use Rattle.message.proofs.write.write_response_message.Reads as write-response-message
use Rattle.message.proofs.write.write_routine_request_message.Kinds as write-routine-request-message-kinds
use Rattle.message.proofs.write.write_routine_request_message.Reads as write-routine-request-message
use Rattle.message.proofs.write.write_routine_response_message.Kinds as write-routine-response-message-kinds
use Rattle.message.proofs.write.write_routine_response_message.Reads as write-routine-response-message

-- ---- service bytes
-- the code's sort for the paper's
abbrev sort_back : Answer paper.Sort → Result Sort Refusal
sort_back (accepted file_request) = Ok Sort.FileRequest
sort_back (accepted routine_request) = Ok Sort.RoutineRequest
sort_back (accepted file_response) = Ok Sort.FileResponse
sort_back (accepted routine_response) = Ok Sort.RoutineResponse
sort_back (accepted negative_answer) = Ok Sort.NegativeAnswer
sort_back (refused e) = Err (refusal_back e)

sort-back : (r : Result Sort Refusal) → sort_back (sort_said r) ≡ r
sort-back (Ok Sort.FileRequest) = refl
sort-back (Ok Sort.RoutineRequest) = refl
sort-back (Ok Sort.FileResponse) = refl
sort-back (Ok Sort.RoutineResponse) = refl
sort-back (Ok Sort.NegativeAnswer) = refl
sort-back (Err e) = ap Err (refusal-back e)

-- the code's service for the paper's
abbrev pub service_back : paper.Service → Service
service_back file_transfer = Service.FileTransfer
service_back routine_control = Service.RoutineControl

pub service-back : (k : Service) → service_back (service_of k) ≡ k
service-back Service.FileTransfer = refl
service-back Service.RoutineControl = refl

abbrev service_answer_back : Answer paper.Service → Result Service Refusal
service_answer_back (accepted k) = Ok (service_back k)
service_answer_back (refused e) = Err (refusal_back e)

service-answer-back : (r : Result Service Refusal) → service_answer_back (service_said r) ≡ r
service-answer-back (Ok k) = ap Ok (service-back k)
service-answer-back (Err e) = ap Err (refusal-back e)

pub sort_from_byte_determined : Determined 0 sort-from-byte-kinds.ps sort-from-byte-kinds.r sort-from-byte.Post
sort_from_byte_determined κs a x y r₁ r₂ p q = sym (sort-back r₁) ∙ ap sort_back (p ∙ sym q) ∙ sort-back r₂

pub sort_try_from_determined : Determined 0 sort_of_byte.try_from.Kinds.ps sort_of_byte.try_from.Kinds.r sort_of_byte.try_from.Reads.Post
sort_try_from_determined κs a x y r₁ r₂ p q = sym (sort-back r₁) ∙ ap sort_back (p ∙ sym q) ∙ sort-back r₂

pub sort_value_determined : Determined 0 sort-value-kinds.ps sort-value-kinds.r sort-value.Post
sort_value_determined κs a x y r₁ r₂ p q = p ∙ sym q

pub sort_into_byte_determined : Determined 0 byte_of_sort.from.Kinds.ps byte_of_sort.from.Kinds.r byte_of_sort.from.Reads.Post
sort_into_byte_determined κs a x y r₁ r₂ p q = p ∙ sym q

pub service_from_byte_determined : Determined 0 service-from-byte-kinds.ps service-from-byte-kinds.r service-from-byte.Post
service_from_byte_determined κs a x y r₁ r₂ p q = sym (service-answer-back r₁) ∙ ap service_answer_back (p ∙ sym q) ∙ service-answer-back r₂

pub service_try_from_determined : Determined 0 service_of_byte.try_from.Kinds.ps service_of_byte.try_from.Kinds.r service_of_byte.try_from.Reads.Post
service_try_from_determined κs a x y r₁ r₂ p q = sym (service-answer-back r₁) ∙ ap service_answer_back (p ∙ sym q) ∙ service-answer-back r₂

pub service_value_determined : Determined 0 service-value-kinds.ps service-value-kinds.r service-value.Post
service_value_determined κs a x y r₁ r₂ p q = p ∙ sym q

pub service_into_byte_determined : Determined 0 byte_of_service.from.Kinds.ps byte_of_service.from.Kinds.r byte_of_service.from.Reads.Post
service_into_byte_determined κs a x y r₁ r₂ p q = p ∙ sym q

pub is_listed_determined : Determined 0 is-listed-kinds.ps is-listed-kinds.r is-listed.Post
is_listed_determined κs a x y r₁ r₂ p q = p ∙ sym q

-- ---- reading
-- the code's record of each sort for the paper's: its places begin where they do in a whole message
abbrev request_back : Request → RequestFileTransferRequest
request_back m = record {
  kind = kind_back m.kind;
  file_path_and_name = place_of 4 (length m.name);
  data_format_identifier = format_of m.format;
  size = sizes_back m.uncompressed m.compressed;
}

abbrev response_back : Response → RequestFileTransferResponse
response_back m = record {
  kind = kind_back m.kind;
  max_number_of_block_length = place_of (block_start (after_mode m.kind) 2) (length m.block);
  data_format_identifier = format_of m.format;
  file_size = file_sizes_back m.uncompressed m.compressed;
  position = record { file_position = m.position };
}

abbrev routine_request_of : Bool → ℕ → RoutineControlSubFunction → Place → Result Message Refusal
routine_request_of suppress identifier f p =
    Ok (Message.RoutineRequest (record { suppress_positive_response = suppress; sub_function = f; routine_id = identifier; option_record = p }))

abbrev routine_response_of : ℕ → RoutineControlSubFunction → Place → Result Message Refusal
routine_response_of identifier f p = Ok (Message.RoutineResponse (record { sub_function = f; routine_id = identifier; status_record = p }))

abbrev negative_of : ℕ → Bool → Service → Result Message Refusal
negative_of c listed k = Ok (Message.Negative (record { service = k; code = c; listed = listed }))

-- the answer about a message of n bytes that the paper's stands for
abbrev pub message_back : ℕ → Answer (Read WholeMessage) → Result Message Refusal
message_back n (accepted (a_file_request m leaving t)) = Ok (Message.FileRequest (request_back m) (n - length t))
message_back n (accepted (a_routine_request m leaving t)) = routine_request_of m.suppress m.identifier (sub_back m.sub_function) (place_of 4 (length m.«record»))
message_back n (accepted (a_file_response m leaving t)) = Ok (Message.FileResponse (response_back m) (n - length t))
message_back n (accepted (a_routine_response m leaving t)) = routine_response_of m.identifier (sub_back m.sub_function) (place_of 4 (length m.«record»))
message_back n (accepted (a_negative_answer m leaving t)) = negative_of m.code m.listed (service_back m.service)
message_back n (refused e) = Err (refusal_back e)

-- a record comes back from what it means
request-back : (s : List ℕ) (q : RequestFileTransferRequest) (tail : ℕ) → RequestPlaced s q tail → request_back (request.meant s q) ≡ q
request-back s q tail h =
    rw (kind-back q.kind, place_back s q.file_path_and_name h.begins (omega (arith, h.begins, h.ends)), sizes-back q.size h.halves.0 h.halves.1)

response-back : (s : List ℕ) (q : RequestFileTransferResponse) (tail : ℕ) → ResponsePlaced s q tail → response_back (response.meant s q) ≡ q
response-back s q tail h =
    rw (kind-back q.kind, place_back s q.max_number_of_block_length h.begins h.ends, file-sizes-back q.file_size h.halves.0 h.halves.1)

message-back : (s : List ℕ) (r : Result Message Refusal) → message_placed s r → message_back (length s) (message_said s r) ≡ r
message-back s (Ok (Message.FileRequest q tail)) h = ap₂ (λ (m : RequestFileTransferRequest) (t : ℕ). Ok (Message.FileRequest m t)) (request-back s q tail h) (tail_back s tail h.within)
message-back s (Ok (Message.RoutineRequest q)) h =
    ap₂ (routine_request_of q.suppress_positive_response q.routine_id) (sub_back_lem q.sub_function) (place_back s q.option_record h.0 (omega (arith, h.0, h.1)))
message-back s (Ok (Message.FileResponse q tail)) h = ap₂ (λ (m : RequestFileTransferResponse) (t : ℕ). Ok (Message.FileResponse m t)) (response-back s q tail h) (tail_back s tail h.within)
message-back s (Ok (Message.RoutineResponse q)) h = ap₂ (routine_response_of q.routine_id) (sub_back_lem q.sub_function) (place_back s q.status_record h.0 (omega (arith, h.0, h.1)))
message-back s (Ok (Message.Negative q)) h = ap (negative_of q.code q.listed) (service-back q.service)
message-back s (Err e) h = ap Err (refusal-back e)

-- the answer to a message is the paper's, led back
pub message-is : {s : List ℕ} {r : Result Message Refusal} → MessageRight s r → r ≡ message_back (length s) (read_message s)
message-is {s} {r} h = sym (message-back s r h.place) ∙ ap (message_back (length s)) h.paper

pub read_message_determined : Determined 1 read-message-kinds.ps read-message-kinds.r read-message.Post
read_message_determined κs a x y r₁ r₂ p q = message-is p ∙ sym (message-is q)

-- ---- writing: the buffer is the last parameter of each
pub write_negative_determined : WritesOnce 1 write-negative-kinds.ps write-negative-kinds.r (λ κs x. x.1.1.0) write-negative.Post
write_negative_determined κs a x y r₁ r₂ p q = wrote_once p q

pub write_request_message_determined : WritesOnce 2 write-request-message-kinds.ps write-request-message-kinds.r (λ κs x. x.1.1.1.1.0) write-request-message.Post
write_request_message_determined κs a x y r₁ r₂ p q = wrote_once p q

pub write_response_message_determined : WritesOnce 2 write-response-message-kinds.ps write-response-message-kinds.r (λ κs x. x.1.1.1.1.1.0) write-response-message.Post
write_response_message_determined κs a x y r₁ r₂ p q = wrote_once p q

pub write_routine_request_message_determined : WritesOnce 2 write-routine-request-message-kinds.ps write-routine-request-message-kinds.r (λ κs x. x.1.1.1.1.0) write-routine-request-message.Post
write_routine_request_message_determined κs a x y r₁ r₂ p q = wrote_once p q

pub write_routine_response_message_determined : WritesOnce 2 write-routine-response-message-kinds.ps write-routine-response-message-kinds.r (λ κs x. x.1.1.1.0) write-routine-response-message.Post
write_routine_response_message_determined κs a x y r₁ r₂ p q = wrote_once p q
