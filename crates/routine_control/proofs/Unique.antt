-- No second answer meets the contract of a function of this crate: at the same arguments the message, and for a writer also the buffer, settles it.
-- Assumes nothing.
use Prim.Native.Nat.{ℕ}
use mathlib.Core.Bool.{Bool}
use mathlib.Core.Path.{◌≡◌, refl, sym, ap, ap₂, ◌∙◌}
use mathlib.Core.List.{List}
use native.Mathlib.Omega.{arith}
use contract.Lifetimes.{Lfts}
use denote.Triple.Clauses.{AtExit}
use borrow.Fn.Kinds.{ended_of}
use borrow.Fn.World.{ArgsD}
use lib.ListN.{length}
use Rattle.std.specs.Prelude.{Result, Ok, Err}
use Rattle.paper.specs.Answer.{Answer, accepted, refused, Read, ◌leaving◌}
use Rattle.paper.specs.RoutineControl.{SubFunction, start_routine, stop_routine, request_routine_results, RoutineRequest, RoutineResponse, read_routine_request, read_routine_response}
use Rattle.wire.specs.declared.place.Place.{Place}
use Rattle.wire.specs.declared.refusal.Refusal.{Refusal}
use Rattle.wire.proofs.Refusals.{refusal_back, refusal-back}
use Rattle.wire.proofs.Unique.{Determined, place_of, place_back}
use Rattle.wire.proofs.UniqueWriting.{wrote_once}
use Rattle.routine_control.specs.SubFunction.{sub_of, sub_said, Control, suppress_said}
use Rattle.routine_control.specs.Request.{request_said, request_place, RoutineRequestRight}
use Rattle.routine_control.specs.Response.{response_said, response_place, RoutineResponseRight}
use Rattle.routine_control.specs.declared.sub_function.RoutineControlSubFunction.{RoutineControlSubFunction}
use Rattle.routine_control.specs.declared.sub_function.RoutineControlSubFunction.TheVariants.{StartRoutine, StopRoutine, RequestRoutineResults}
use Rattle.routine_control.specs.declared.sub_function.SuppressablePositiveResponse.{SuppressablePositiveResponse}
use Rattle.routine_control.specs.declared.request.RoutineControlRequest.{RoutineControlRequest}
use Rattle.routine_control.specs.declared.response.RoutineControlResponse.{RoutineControlResponse}
use Rattle.routine_control.proofs.nack.routine_control_allowed_nack_codes.Kinds as routine-codes-kinds
use Rattle.routine_control.proofs.nack.routine_control_allowed_nack_codes.Reads as routine-codes
use Rattle.routine_control.proofs.nack.request_file_transfer_allowed_nack_codes.Kinds as transfer-codes-kinds
use Rattle.routine_control.proofs.nack.request_file_transfer_allowed_nack_codes.Reads as transfer-codes
use Rattle.routine_control.proofs.sub_function.RoutineControlSubFunction.from_byte.Kinds as sub-from-byte-kinds
use Rattle.routine_control.proofs.sub_function.RoutineControlSubFunction.from_byte.Reads as sub-from-byte
use Rattle.routine_control.proofs.sub_function.RoutineControlSubFunction.value.Kinds as value-kinds
use Rattle.routine_control.proofs.sub_function.RoutineControlSubFunction.value.Reads as value
use Rattle.routine_control.proofs.sub_function.RoutineControlSubFunctionTryFromU8 as sub_of_byte
use Rattle.routine_control.proofs.sub_function.U8FromRoutineControlSubFunction as byte_of_sub
use Rattle.routine_control.proofs.sub_function.SuppressablePositiveResponseTryFromU8 as suppress_of_byte
use Rattle.routine_control.proofs.sub_function.U8FromSuppressablePositiveResponse as byte_of_suppress
use Rattle.routine_control.proofs.sub_function.SuppressablePositiveResponse.from_byte.Kinds as suppress-from-byte-kinds
use Rattle.routine_control.proofs.sub_function.SuppressablePositiveResponse.from_byte.Reads as suppress-from-byte
use Rattle.routine_control.proofs.sub_function.SuppressablePositiveResponse.to_byte.Kinds as to-byte-kinds
use Rattle.routine_control.proofs.sub_function.SuppressablePositiveResponse.to_byte.Reads as to-byte
use Rattle.routine_control.proofs.request.read_routine_request.Kinds as read-request-kinds
use Rattle.routine_control.proofs.request.read_routine_request.Reads as read-request
use Rattle.routine_control.specs.contracts.request.write_routine_request as write-request
use Rattle.routine_control.proofs.request.write_routine_request.Kinds as write-request-kinds
use Rattle.routine_control.proofs.request.write_routine_request.Reads as write-request-reads
use Rattle.routine_control.proofs.response.read_routine_response.Kinds as read-response-kinds
use Rattle.routine_control.proofs.response.read_routine_response.Reads as read-response
use Rattle.routine_control.specs.contracts.response.write_routine_response as write-response
use Rattle.routine_control.proofs.response.write_routine_response.Kinds as write-response-kinds
use Rattle.routine_control.proofs.response.write_routine_response.Reads as write-response-reads

-- ---- negative codes
pub routine_codes_determined : Determined 0 routine-codes-kinds.ps routine-codes-kinds.r routine-codes.Post
routine_codes_determined κs a x y r₁ r₂ p q = p ∙ sym q

pub transfer_codes_determined : Determined 0 transfer-codes-kinds.ps transfer-codes-kinds.r transfer-codes.Post
transfer_codes_determined κs a x y r₁ r₂ p q = p ∙ sym q

-- ---- sub-functions
-- the code's sub-function for the paper's
abbrev pub sub_back : SubFunction → RoutineControlSubFunction
sub_back start_routine = StartRoutine
sub_back stop_routine = StopRoutine
sub_back request_routine_results = RequestRoutineResults

pub sub_back_lem : (f : RoutineControlSubFunction) → sub_back (sub_of f) ≡ f
sub_back_lem StartRoutine = refl
sub_back_lem StopRoutine = refl
sub_back_lem RequestRoutineResults = refl

abbrev sub_answer_back : Answer SubFunction → Result RoutineControlSubFunction Refusal
sub_answer_back (accepted f) = Ok (sub_back f)
sub_answer_back (refused e) = Err (refusal_back e)

sub-answer-back : (r : Result RoutineControlSubFunction Refusal) → sub_answer_back (sub_said r) ≡ r
sub-answer-back (Ok f) = ap Ok (sub_back_lem f)
sub-answer-back (Err e) = ap Err (refusal-back e)

pub sub_from_byte_determined : Determined 0 sub-from-byte-kinds.ps sub-from-byte-kinds.r sub-from-byte.Post
sub_from_byte_determined κs a x y r₁ r₂ p q = sym (sub-answer-back r₁) ∙ ap sub_answer_back (p ∙ sym q) ∙ sub-answer-back r₂

pub sub_try_from_determined : Determined 0 sub_of_byte.try_from.Kinds.ps sub_of_byte.try_from.Kinds.r sub_of_byte.try_from.Reads.Post
sub_try_from_determined κs a x y r₁ r₂ p q = sym (sub-answer-back r₁) ∙ ap sub_answer_back (p ∙ sym q) ∙ sub-answer-back r₂

pub value_determined : Determined 0 value-kinds.ps value-kinds.r value.Post
value_determined κs a x y r₁ r₂ p q = p ∙ sym q

pub sub_into_byte_determined : Determined 0 byte_of_sub.from.Kinds.ps byte_of_sub.from.Kinds.r byte_of_sub.from.Reads.Post
sub_into_byte_determined κs a x y r₁ r₂ p q = p ∙ sym q

-- ---- the first byte of a request
abbrev suppress_of : Bool → RoutineControlSubFunction → SuppressablePositiveResponse
suppress_of suppress f = record { suppress_positive_response = suppress; value = f }

abbrev suppress_back : Answer Control → Result SuppressablePositiveResponse Refusal
suppress_back (accepted c) = Ok (suppress_of c.suppress (sub_back c.sub_function))
suppress_back (refused e) = Err (refusal_back e)

suppress-back : (r : Result SuppressablePositiveResponse Refusal) → suppress_back (suppress_said r) ≡ r
suppress-back (Ok c) = ap (λ (f : RoutineControlSubFunction). Ok (suppress_of c.suppress_positive_response f)) (sub_back_lem c.value)
suppress-back (Err e) = ap Err (refusal-back e)

pub suppress_from_byte_determined : Determined 0 suppress-from-byte-kinds.ps suppress-from-byte-kinds.r suppress-from-byte.Post
suppress_from_byte_determined κs a x y r₁ r₂ p q = sym (suppress-back r₁) ∙ ap suppress_back (p ∙ sym q) ∙ suppress-back r₂

pub suppress_try_from_determined : Determined 0 suppress_of_byte.try_from.Kinds.ps suppress_of_byte.try_from.Kinds.r suppress_of_byte.try_from.Reads.Post
suppress_try_from_determined κs a x y r₁ r₂ p q = sym (suppress-back r₁) ∙ ap suppress_back (p ∙ sym q) ∙ suppress-back r₂

pub suppress_into_byte_determined : Determined 0 byte_of_suppress.from.Kinds.ps byte_of_suppress.from.Kinds.r byte_of_suppress.from.Reads.Post
suppress_into_byte_determined κs a x y r₁ r₂ p q = p ∙ sym q

pub to_byte_determined : Determined 0 to-byte-kinds.ps to-byte-kinds.r to-byte.Post
to_byte_determined κs a x y r₁ r₂ p q = p ∙ sym q

-- ---- requests
abbrev request_of : Bool → ℕ → RoutineControlSubFunction → Place → Result RoutineControlRequest Refusal
request_of suppress identifier f p =
    Ok (record { suppress_positive_response = suppress; sub_function = f; routine_id = identifier; option_record = p })

-- the answer that the paper's stands for
abbrev pub request_back : Answer (Read RoutineRequest) → Result RoutineControlRequest Refusal
request_back (accepted (m leaving t)) = request_of m.suppress m.identifier (sub_back m.sub_function) (place_of 3 (length m.«record»))
request_back (refused e) = Err (refusal_back e)

request-back : (s : List ℕ) (r : Result RoutineControlRequest Refusal) → request_place s r → request_back (request_said s r) ≡ r
request-back s (Ok q) (e, h) =
    ap₂ (request_of q.suppress_positive_response q.routine_id) (sub_back_lem q.sub_function) (place_back s q.option_record e (omega arith))
request-back s (Err e) h = ap Err (refusal-back e)

-- the answer to a message is the paper's, led back
pub request-is : {s : List ℕ} {r : Result RoutineControlRequest Refusal} → RoutineRequestRight s r → r ≡ request_back (read_routine_request s)
request-is {s} {r} h = sym (request-back s r h.place) ∙ ap request_back h.paper

pub read_request_determined : Determined 1 read-request-kinds.ps read-request-kinds.r read-request.Post
read_request_determined κs a x y r₁ r₂ p q = request-is p ∙ sym (request-is q)

-- the answer, and what the buffer, the fifth parameter, holds at the exit
pub write_request_determined : (κs : Lfts 2) (a : ArgsD write-request.signature κs) (x y : AtExit (ended_of 2 write-request-kinds.ps write-request-kinds.r) κs) (r s : Result ℕ Refusal)
    → write-request-reads.Post κs a r x → write-request-reads.Post κs a s y → (r ≡ s) × (x.1.1.1.1.0.now ≡ y.1.1.1.1.0.now)
write_request_determined κs a x y r s p q = wrote_once p q

-- ---- responses
abbrev response_of : ℕ → RoutineControlSubFunction → Place → Result RoutineControlResponse Refusal
response_of identifier f p = Ok (record { sub_function = f; routine_id = identifier; status_record = p })

-- the answer that the paper's stands for
abbrev pub response_back : Answer (Read RoutineResponse) → Result RoutineControlResponse Refusal
response_back (accepted (m leaving t)) = response_of m.identifier (sub_back m.sub_function) (place_of 3 (length m.«record»))
response_back (refused e) = Err (refusal_back e)

response-back : (s : List ℕ) (r : Result RoutineControlResponse Refusal) → response_place s r → response_back (response_said s r) ≡ r
response-back s (Ok q) (e, h) = ap₂ (response_of q.routine_id) (sub_back_lem q.sub_function) (place_back s q.status_record e (omega arith))
response-back s (Err e) h = ap Err (refusal-back e)

-- the answer to a message is the paper's, led back
pub response-is : {s : List ℕ} {r : Result RoutineControlResponse Refusal} → RoutineResponseRight s r → r ≡ response_back (read_routine_response s)
response-is {s} {r} h = sym (response-back s r h.place) ∙ ap response_back h.paper

pub read_response_determined : Determined 1 read-response-kinds.ps read-response-kinds.r read-response.Post
read_response_determined κs a x y r₁ r₂ p q = response-is p ∙ sym (response-is q)

-- the answer, and what the buffer, the fourth parameter, holds at the exit
pub write_response_determined : (κs : Lfts 2) (a : ArgsD write-response.signature κs) (x y : AtExit (ended_of 2 write-response-kinds.ps write-response-kinds.r) κs) (r s : Result ℕ Refusal)
    → write-response-reads.Post κs a r x → write-response-reads.Post κs a s y → (r ≡ s) × (x.1.1.1.0.now ≡ y.1.1.1.0.now)
write_response_determined κs a x y r s p q = wrote_once p q
