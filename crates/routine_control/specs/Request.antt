-- What the answer about a routine request says of the message, in the paper's terms.
use Rattle.std.specs.Prelude.{◌≡◌, Bool, ℕ, ◌+◌, List, [], length, Result, Ok, Err}
use Rattle.paper.specs.Answer.{Answer, accepted, refused, Read, ◌leaving◌}
use Rattle.paper.specs.RoutineControl.{SubFunction, RoutineRequest, read_routine_request, write_routine_request}
use Rattle.wire.specs.Refusals.{row}
use Rattle.wire.specs.Place.{bytes_at}
use Rattle.wire.specs.declared.refusal.Refusal.{Refusal}
use Rattle.routine_control.specs.SubFunction.{sub_of}
use Rattle.routine_control.specs.declared.sub_function.RoutineControlSubFunction.{RoutineControlSubFunction}
use Rattle.routine_control.specs.declared.request.RoutineControlRequest.{RoutineControlRequest}

abbrev pub routine_request : Bool → SubFunction → ℕ → List ℕ → RoutineRequest
routine_request suppress f identifier r = record { suppress = suppress; sub_function = f; identifier = identifier; «record» = r }

-- the bytes of the request that a caller hands over to be written, or the refusal
abbrev pub request_to_write : Bool → RoutineControlSubFunction → ℕ → List ℕ → Answer (List ℕ)
request_to_write suppress f identifier r = write_routine_request (routine_request suppress (sub_of f) identifier r)

-- what a request of the message s means
abbrev pub request_meant : List ℕ → RoutineControlRequest → RoutineRequest
request_meant s q = routine_request q.suppress_positive_response (sub_of q.sub_function) q.routine_id (bytes_at s q.option_record)

-- what the answer says: the request, with nothing left over, or the refusal
abbrev pub request_said : List ℕ → Result RoutineControlRequest Refusal → Answer (Read RoutineRequest)
request_said s (Ok q) = accepted (request_meant s q leaving [])
request_said s (Err e) = refused (row e)

-- the record is the whole rest after the three bytes
abbrev pub request_place : List ℕ → Result RoutineControlRequest Refusal → Type 0
request_place s (Ok q) = (q.option_record.start ≡ 3) × (3 + q.option_record.len ≡ length s)
request_place s (Err e) = Unit {0}

-- the answer r about the message s is the paper's
pub record RoutineRequestRight (s : List ℕ) (r : Result RoutineControlRequest Refusal) : Type 0 where
  pub paper : request_said s r ≡ read_routine_request s
  pub place : request_place s r
