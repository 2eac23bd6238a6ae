-- `archive::messages::skr_write_request_message` meets its contract: the byte is a kind, and the message is written, or the byte is none, and nothing is.
use mathlib.Core.Path.{sym, ap, ◌∙◌}
use Rattle.paper.specs.WholeMessage.{file_request, led}
use Rattle.file_operation.specs.Mode.{mode_said}
use Rattle.station.proofs.Written.{wrote_known, not_known}
use Rattle.station.proofs.Transfers.{request-known, request-unknown}
use Rattle.archive.proofs.messages.skr_write_request_message.Goals as goal

pub returns-in-Ok : goal.returns-in-Ok
returns-in-Ok c =
    let e = sym (ap mode_said c.in-Ok.is) ∙ c.try_from.ensures in
    wrote_known (ap (led file_request) (request-known _ e c.from-format.ensures c.request_sizes-size.ensures _)) c.write_request_message.ensures c.flat.ensures

pub returns-in-Err : goal.returns-in-Err
returns-in-Err c =
    let a = c.args in
    let e = sym (ap mode_said c.in-Err.is) ∙ c.try_from.ensures in
    not_known (ap (led file_request) (request-unknown a.kind e a.name.now a.format a.uncompressed_high a.uncompressed_low a.compressed_high a.compressed_low)) c.into.ensures
