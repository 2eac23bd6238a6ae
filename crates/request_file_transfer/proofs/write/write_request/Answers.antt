-- `request_file_transfer::write::write_request` meets its contract: the checks of the name, and then the writer of a good one.
use Rattle.std.proofs.lemmas.Result.{err_from_is_err_and}
use Rattle.request_file_transfer.proofs.Laid.{named, off}
use Rattle.request_file_transfer.proofs.write.write_request.Goals as goal

pub returns-in_err-good_name : goal.returns-in_err-good_name
returns-in_err-good_name c =
    let a = c.args in
    let (y, same, made) = err_from_is_err_and c.from_residual.result c.from_residual.ensures.1 in
    rw (same, made) (off a.kind _ a.size _ _ c.in_err-good_name.ensures)

pub write_named-requires : goal.write_named-requires
write_named-requires c = (named _ c.in_ok-good_name.ensures).0

pub returns : goal.returns
returns c = c.write_named.ensures
