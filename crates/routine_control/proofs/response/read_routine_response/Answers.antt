-- `routine_control::response::read_routine_response` meets its contract: its answers are the three cases of a routine response, and the whole first byte is judged.
use Prim.Native.Nat.{ℕ}
use mathlib.Core.List.{List}
use Rattle.paper.specs.RoutineControl.{SubFunction, RoutineResponse, RoutineBytes, read_routine_response}
use Rattle.routine_control.specs.Response.{routine_response}
use Rattle.routine_control.proofs.Cases.{too_few, no_sub, whole, record_place}
use Rattle.std.proofs.lemmas.Result.{err_from_is_err_and}
use Rattle.routine_control.proofs.response.read_routine_response.Goals as goal

abbrev all : ℕ → ℕ
all b = b

abbrev response_of : RoutineBytes → SubFunction → List ℕ → RoutineResponse
response_of h f r = routine_response f h.identifier r

pub returns-in_err-bytes : goal.returns-in_err-bytes
unfolding read_routine_response
returns-in_err-bytes c =
    let e = err_from_is_err_and c.from_residual.result c.from_residual.ensures.1 in
    rw (e.1, e.2) (record { paper = too_few all response_of c.routine_bytes_at.ensures c.in_err-bytes.was; place = tt })

pub returns-in_err-sub_function : goal.returns-in_err-sub_function
unfolding read_routine_response
returns-in_err-sub_function c =
    let e = err_from_is_err_and c.from_residual-in_err-sub_function.result c.from_residual-in_err-sub_function.ensures.1 in
    rw (e.1, e.2) (record { paper = no_sub all response_of c.routine_bytes_at.ensures c.in_ok-bytes.was c.in_err-sub_function.ensures; place = tt })

pub returns : goal.returns
unfolding read_routine_response
returns c =
    let right = c.routine_bytes_at.ensures in
    record {
      paper = whole all response_of right c.in_ok-bytes.was c.in_ok-sub_function.ensures c.available_at.ensures;
      place = record_place right c.in_ok-bytes.was c.available_at.ensures;
    }
