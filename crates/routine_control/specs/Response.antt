-- What the answer about a routine response says of the message, in the paper's terms.
use Rattle.std.specs.Prelude.{◌≡◌, ℕ, ◌+◌, List, [], length, Result, Ok, Err}
use Rattle.paper.specs.Answer.{Answer, accepted, refused, Read, ◌leaving◌}
use Rattle.paper.specs.RoutineControl.{SubFunction, RoutineResponse, read_routine_response, write_routine_response}
use Rattle.wire.specs.Refusals.{row}
use Rattle.wire.specs.Place.{bytes_at}
use Rattle.wire.specs.declared.refusal.Refusal.{Refusal}
use Rattle.routine_control.specs.SubFunction.{sub_of}
use Rattle.routine_control.specs.declared.sub_function.RoutineControlSubFunction.{RoutineControlSubFunction}
use Rattle.routine_control.specs.declared.response.RoutineControlResponse.{RoutineControlResponse}

abbrev pub routine_response : SubFunction → ℕ → List ℕ → RoutineResponse
routine_response f identifier r = record { sub_function = f; identifier = identifier; «record» = r }

-- the bytes of the response that a caller hands over to be written, or the refusal
abbrev pub response_to_write : RoutineControlSubFunction → ℕ → List ℕ → Answer (List ℕ)
response_to_write f identifier r = write_routine_response (routine_response (sub_of f) identifier r)

-- what a response of the message s means
abbrev pub response_meant : List ℕ → RoutineControlResponse → RoutineResponse
response_meant s q = routine_response (sub_of q.sub_function) q.routine_id (bytes_at s q.status_record)

-- what the answer says: the response, with nothing left over, or the refusal
abbrev pub response_said : List ℕ → Result RoutineControlResponse Refusal → Answer (Read RoutineResponse)
response_said s (Ok q) = accepted (response_meant s q leaving [])
response_said s (Err e) = refused (row e)

-- the record is the whole rest after the three bytes
abbrev pub response_place : List ℕ → Result RoutineControlResponse Refusal → Type 0
response_place s (Ok q) = (q.status_record.start ≡ 3) × (3 + q.status_record.len ≡ length s)
response_place s (Err e) = Unit {0}

-- the answer r about the message s is the paper's
pub record RoutineResponseRight (s : List ℕ) (r : Result RoutineControlResponse Refusal) : Type 0 where
  pub paper : response_said s r ≡ read_routine_response s
  pub place : response_place s r
