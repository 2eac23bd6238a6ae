-- `request_file_transfer_response::write::needed` meets its contract: each answer is the length that the kind's row gives.
use mathlib.Core.Path.{refl}
use native.Mathlib.Omega.{arith}
use Rattle.paper.specs.Response.{good_block_length}
use Rattle.paper.proofs.Response.{good-block-length}
use Rattle.file_operation.proofs.Lengths.{refused_then}
use Rattle.request_file_transfer_response.proofs.Cases.{err_is}
use Rattle.request_file_transfer_response.proofs.Laid.{short, length-by-row}
use Rattle.request_file_transfer_response.proofs.write.needed.Goals as goal

pub returns-in_default : goal.returns-in_default
returns-in_default c = rw (length-by-row, ← c.after_mode.ensures, c.in_default.is)

pub returns-in_err-block_len : goal.returns-in_err-block_len
returns-in_err-block_len c =
    rw (err_is _ _ c.from_residual.ensures.1, length-by-row, ← c.after_mode.ensures, c.in-Some.is)
    (refused_then (good_block_length _) _ c.in_err-block_len.ensures)

pub prove-unreachable-requires : goal.prove-unreachable-requires
prove-unreachable-requires c = let s = short c.args.max_number_of_block_length.now c.in_ok-block_len.ensures in omega arith

pub returns : goal.returns
returns c =
    let block = c.args.max_number_of_block_length.now in
    let (is, long) = short block c.in_ok-block_len.ensures in
    rw (length-by-row, ← c.after_mode.ensures, c.in-Some.is, (good-block-length block block).1 (refl, is), c.more_len.ensures.0, long)
