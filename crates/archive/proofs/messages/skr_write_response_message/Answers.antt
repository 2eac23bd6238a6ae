-- `archive::messages::skr_write_response_message` meets its contract: the byte is a kind, and the message is written, or the byte is none, and nothing is.
use mathlib.Core.Path.{sym, ap, ◌∙◌}
use Rattle.paper.specs.WholeMessage.{file_response, led}
use Rattle.file_operation.specs.Mode.{mode_said}
use Rattle.station.proofs.Written.{wrote_known, not_known}
use Rattle.station.proofs.Transfers.{response-known, response-unknown}
use Rattle.archive.proofs.messages.skr_write_response_message.Goals as goal

pub returns-in-Ok : goal.returns-in-Ok
returns-in-Ok c =
    let e = sym (ap mode_said c.in-Ok.is) ∙ c.try_from.ensures in
    wrote_known (ap (led file_response) (response-known _ e c.from-format.ensures c.response_sizes-size.ensures _ _)) c.write_response_message.ensures c.flat.ensures

pub returns-in-Err : goal.returns-in-Err
returns-in-Err c =
    let a = c.args in
    let e = sym (ap mode_said c.in-Err.is) ∙ c.try_from.ensures in
    not_known (ap (led file_response) (response-unknown a.kind e a.block.now a.format a.uncompressed_high a.uncompressed_low a.compressed_high a.compressed_low a.position)) c.into.ensures
