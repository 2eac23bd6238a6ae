-- `message::read::routine_request` meets its contract: what the sort's own reader says of the rest, each place one byte on.
use native.Mathlib.Omega.{arith}
use Rattle.std.proofs.lemmas.Result.{err_from_is_err_and}
use Rattle.message.proofs.Behind.{routine-request-on, routine_request_off}
use Rattle.message.proofs.read.routine_request.Goals as goal

pub returns-in_err-q : goal.returns-in_err-q
returns-in_err-q c =
    let e = err_from_is_err_and c.from_residual.result c.from_residual.ensures.1 in
    rw (e.1, e.2) (routine_request_off c.in_err-q.ensures)

pub place_on-requires : goal.place_on-requires
place_on-requires c = omega (arith, c.in_ok-q.ensures.place.0)

pub returns : goal.returns
returns c = rw c.place_on.ensures (routine-request-on c.args.s.now c.requires c.in_ok-q.ensures)
