-- `routine_control::request::read_routine_request` meets its contract: its answers are the three cases of a routine request, and the first byte's answer judges the low seven bits.
use Prim.Native.Nat.{ℕ, ◌%◌}
use mathlib.Core.List.{List}
use lib.Dec.{leb}
use Rattle.paper.specs.RoutineControl.{SubFunction, RoutineRequest, RoutineBytes, read_routine_request}
use Rattle.routine_control.specs.Request.{routine_request}
use Rattle.routine_control.proofs.Codes.{low_bits, top_bit}
use Rattle.routine_control.proofs.Cases.{too_few, no_sub, whole, record_place}
use Rattle.std.proofs.lemmas.Result.{err_from_is_err_and}
use Rattle.routine_control.proofs.request.read_routine_request.Goals as goal

abbrev low : ℕ → ℕ
low b = b % 128

abbrev request_of : RoutineBytes → SubFunction → List ℕ → RoutineRequest
request_of h f r = routine_request (leb 128 h.control) f h.identifier r

pub returns-in_err-bytes : goal.returns-in_err-bytes
unfolding read_routine_request
returns-in_err-bytes c =
    let e = err_from_is_err_and c.from_residual.result c.from_residual.ensures.1 in
    rw (e.1, e.2) (record { paper = too_few low request_of c.routine_bytes_at.ensures c.in_err-bytes.was; place = tt })

pub returns-in_err-control : goal.returns-in_err-control
unfolding read_routine_request
returns-in_err-control c =
    let e = err_from_is_err_and c.from_residual-in_err-control.result c.from_residual-in_err-control.ensures.1 in
    rw (e.1, e.2) (record { paper = no_sub low request_of c.routine_bytes_at.ensures c.in_ok-bytes.was (low_bits _ c.in_err-control.ensures); place = tt })

pub returns : goal.returns
unfolding read_routine_request
returns c =
    let right = c.routine_bytes_at.ensures in
    let e = c.in_ok-control.ensures in
    record {
      paper = rw (top_bit _ e) (whole low request_of right c.in_ok-bytes.was (low_bits _ e) c.available_at.ensures);
      place = record_place right c.in_ok-bytes.was c.available_at.ensures;
    }
