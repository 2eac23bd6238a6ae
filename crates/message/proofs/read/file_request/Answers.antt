-- `message::read::file_request` meets its contract: what the reader of requests says of the rest, each place one byte on.
use native.Mathlib.Omega.{arith}
use lib.ListN.{length-drop}
use Rattle.std.proofs.lemmas.Result.{err_from_is_err_and}
use Rattle.message.proofs.Behind.{lent_is, request-on, request_off}
use Rattle.message.proofs.read.file_request.Goals as goal

pub returns-in_err-q : goal.returns-in_err-q
returns-in_err-q c =
    let e = err_from_is_err_and c.from_residual.result c.from_residual.ensures.1 in
    rw (e.1, e.2) (request_off c.in_err-q.ensures)

pub place_on-requires : goal.place_on-requires
place_on-requires c = omega (arith, c.in_ok-q.ensures.place.begins)

pub overflow_add-result : goal.overflow_add-result
overflow_add-result c =
    let s = c.args.s.now in omega (arith, rw (lent_is s) at c.in_ok-q.ensures.place.within, length-drop 1 s)

pub returns : goal.returns
returns c = rw c.place_on.ensures (request-on c.args.s.now c.requires c.in_ok-q.ensures)
