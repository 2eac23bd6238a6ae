-- `request_file_transfer::rewrite::rewrite_request` meets its contract: the reader's refusal is the answer; else what it accepted is written, the name from its place, and the tail stands beside the writer's answer.
use mathlib.Core.Path.{sym}
use Rattle.std.proofs.lemmas.Result.{err_from_is_err_and}
use Rattle.paper.specs.Request.{read_request, write_request, rewrite_request}
use Rattle.paper.proofs.Request.{request-name}
use Rattle.paper.proofs.Places.{bytes_of}
use Rattle.file_operation.proofs.Rewrites.{unread, reread}
use Rattle.request_file_transfer.proofs.rewrite.rewrite_request.Goals as goal

pub returns-in_err-q : goal.returns-in_err-q
unfolding rewrite_request
returns-in_err-q c =
    let (y, same, made) = err_from_is_err_and c.from_residual.result c.from_residual.ensures.1 in
    rw (same, made) (unread read_request write_request c.in_err-q.ensures.paper)

-- a name that was read is good
pub write_named-w-requires : goal.write_named-w-requires
write_named-w-requires c =
    let bytes = bytes_of c.args.s.now (λ i. (c.shared_slice_known-1.given i).fits) in
    rw c.part_at-name.ensures.1 (request-name _ bytes (sym c.in_ok-q.ensures.paper)).0

pub returns : goal.returns
unfolding rewrite_request
returns c =
    let q = c.in_ok-q.ensures in
    rw c.beside_tail.ensures (reread read_request write_request q.paper q.place.within (rw c.part_at-name.ensures.1 at c.write_named-w.ensures))
