-- `joined_requests::piece_at` meets its contract: the reader's answer to what begins there.
use Rattle.std.proofs.lemmas.Result.{err_from_is_err_and}
use Rattle.paper.proofs.Places.{bytes_of}
use Rattle.joined_requests.proofs.Pieces.{piece_found, piece_refused}
use Rattle.joined_requests.proofs.piece_at.Goals as goal

pub returns-in_err-tail : goal.returns-in_err-tail
returns-in_err-tail c =
    let e = err_from_is_err_and c.from_residual.result c.from_residual.ensures.1 in
    rw (e.1, e.2) (piece_refused c.args.buffer.now c.args.at _ c.in_err-tail.ensures)

pub returns : goal.returns
returns c =
    let s = c.args.buffer.now in
    piece_found s c.args.at _ _ (bytes_of s (λ i. (c.type_inv.buffer i).fits)) c.in_ok-tail.ensures
