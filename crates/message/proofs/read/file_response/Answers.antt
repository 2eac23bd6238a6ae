-- `message::read::file_response` meets its contract: what the sort's own reader says of the rest, each place one byte on.
use native.Mathlib.Omega.{arith}
use lib.ListN.{length-drop}
use Rattle.paper.proofs.Places.{bytes_of}
use Rattle.paper.specs.Response.{after_mode}
use Rattle.file_operation.specs.Mode.{kind_of}
use Rattle.std.proofs.lemmas.Result.{err_from_is_err_and}
use Rattle.message.proofs.Behind.{lent_is, start_small, response-on, response_off}
use Rattle.message.proofs.read.file_response.Goals as goal

pub returns-in_err-q : goal.returns-in_err-q
returns-in_err-q c =
    let e = err_from_is_err_and c.from_residual.result c.from_residual.ensures.1 in
    rw (e.1, e.2) (response_off c.in_err-q.ensures)

pub block_on-requires : goal.block_on-requires
block_on-requires c = omega (arith, c.in_ok-q.ensures.place.begins, start_small (after_mode (kind_of c.in_ok-q.q.kind)))

pub overflow_add-result : goal.overflow_add-result
overflow_add-result c =
    let s = c.args.s.now in omega (arith, rw (lent_is s) at c.in_ok-q.ensures.place.within, length-drop 1 s)

pub returns : goal.returns
returns c =
    let s = c.args.s.now in
    rw c.block_on.ensures (response-on s c.requires (bytes_of s (λ i. (c.type_inv.s i).fits)) c.in_ok-q.ensures)
