-- `request_file_transfer_response::rewrite::rewrite_response` meets its contract: it leaves with the reader's refusal, or answers what the writer answers to the response that was read.
use Rattle.paper.specs.Response.{read_response, write_response, rewrite_response}
use Rattle.file_operation.proofs.Rewrites.{unread, reread}
use Rattle.request_file_transfer_response.proofs.Cases.{err_is}
use Rattle.request_file_transfer_response.proofs.rewrite.rewrite_response.Goals as goal

pub returns-in_err-q : goal.returns-in_err-q
unfolding rewrite_response
returns-in_err-q c = rw (err_is _ _ c.from_residual.ensures.1) (unread read_response write_response c.in_err-q.ensures.paper)

pub returns : goal.returns
unfolding rewrite_response
returns c =
    let r = c.in_ok-q.ensures in
    rw c.beside_tail.ensures
    (reread read_response write_response r.paper r.place.within (rw c.part_at.ensures.1 at c.write_response-w.ensures))
