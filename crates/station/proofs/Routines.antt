-- Routine messages in their flat form: what was read, and what C hands over to be written.
-- Assumes nothing.
use mathlib.Core.Path.{◌≡◌, sym, ap, ◌∙◌}
use Prim.Native.Nat.{ℕ}
use mathlib.Core.Bool.{Bool, false}
use mathlib.Core.List.{List}
use native.Mathlib.Omega.{arith}
use Rattle.std.specs.Prelude.{Result, Ok, Err}
use Rattle.paper.specs.Answer.{Answer}
use Rattle.paper.specs.RoutineControl.{SubFunction, known_sub, read_routine_request, read_routine_response, write_routine_request, write_routine_response}
use Rattle.wire.specs.Refusals.{row}
use Rattle.wire.specs.declared.refusal.Refusal.{Refusal}
use Rattle.wire.proofs.Unique.{place_back}
use Rattle.routine_control.specs.Request.{routine_request, RoutineRequestRight}
use Rattle.routine_control.specs.Response.{routine_response, RoutineResponseRight}
use Rattle.routine_control.specs.declared.request.RoutineControlRequest.{RoutineControlRequest}
use Rattle.routine_control.specs.declared.response.RoutineControlResponse.{RoutineControlResponse}
use Rattle.station.specs.Records.{refused_routine, routine_request_record, routine_response_record}
use Rattle.station.specs.Flat.{RecordOf, accepted_routine, accepted_routine_request, accepted_routine_response}
use Rattle.station.specs.declared.records.RoutineRecord.{RoutineRecord}
use Rattle.station.specs.Handed.{where_known, routine_request_handed, routine_response_handed}

-- ---- what was read
-- the record of an answer about a request that is right is that of the paper's
pub routine_request_flat : (s : List ℕ) (a : Result RoutineControlRequest Refusal) {r : RoutineRecord}
    → RoutineRequestRight s a → RecordOf (λ q r. r ≡ accepted_routine_request q) (λ e r. r ≡ refused_routine (row e)) a r → r ≡ routine_request_record (read_routine_request s)
routine_request_flat s (Ok q) right is =
    let place = place_back s q.option_record right.place.0 (omega (arith, right.place.0, right.place.1)) in
    is ∙ sym (ap (accepted_routine q.suppress_positive_response q.sub_function q.routine_id) place) ∙ ap routine_request_record right.paper
routine_request_flat s (Err e) right is = is ∙ ap routine_request_record right.paper

-- the same about a response
pub routine_response_flat : (s : List ℕ) (a : Result RoutineControlResponse Refusal) {r : RoutineRecord}
    → RoutineResponseRight s a → RecordOf (λ q r. r ≡ accepted_routine_response q) (λ e r. r ≡ refused_routine (row e)) a r → r ≡ routine_response_record (read_routine_response s)
routine_response_flat s (Ok q) right is =
    let place = place_back s q.status_record right.place.0 (omega (arith, right.place.0, right.place.1)) in
    is ∙ sym (ap (accepted_routine false q.sub_function q.routine_id) place) ∙ ap routine_response_record right.paper
routine_response_flat s (Err e) right is = is ∙ ap routine_response_record right.paper

-- ---- what is handed over
-- the request handed over, from the answer about its sub-function byte
pub request-handed : (suppress : Bool) (sub identifier : ℕ) (r : List ℕ) {a : Answer SubFunction}
    → a ≡ known_sub sub → routine_request_handed suppress sub identifier r ≡ where_known a (λ (f : SubFunction). write_routine_request (routine_request suppress f identifier r))
unfolding routine_request_handed
request-handed suppress sub identifier r e =
    sym (ap (λ (a : Answer SubFunction). where_known a (λ (f : SubFunction). write_routine_request (routine_request suppress f identifier r))) e)

-- the same of a response
pub response-handed : (sub identifier : ℕ) (r : List ℕ) {a : Answer SubFunction}
    → a ≡ known_sub sub → routine_response_handed sub identifier r ≡ where_known a (λ (f : SubFunction). write_routine_response (routine_response f identifier r))
unfolding routine_response_handed
response-handed sub identifier r e = sym (ap (λ (a : Answer SubFunction). where_known a (λ (f : SubFunction). write_routine_response (routine_response f identifier r))) e)
