-- `archive::messages::skr_write_routine_request_message` meets its contract: of a byte that is a sub-function the message is written, and one that is none is refused with nothing written.
use mathlib.Core.Path.{sym, ap, ◌∙◌}
use Rattle.paper.specs.WholeMessage.{routine_request, led}
use Rattle.routine_control.specs.SubFunction.{sub_said}
use Rattle.station.proofs.Written.{wrote_known, not_known}
use Rattle.station.proofs.Routines.{request-handed}
use Rattle.archive.proofs.messages.skr_write_routine_request_message.Goals as goal

pub returns-in-Ok : goal.returns-in-Ok
returns-in-Ok c =
    let a = c.args in
    let e = sym (ap sub_said c.in-Ok.is) ∙ c.try_from.ensures in
    wrote_known (ap (led routine_request) (request-handed a.suppress a.sub_function a.identifier a.«record».now e)) c.write_routine_request_message.ensures c.flat.ensures

pub returns-in-Err : goal.returns-in-Err
returns-in-Err c =
    let a = c.args in
    let e = sym (ap sub_said c.in-Err.is) ∙ c.try_from.ensures in
    not_known (ap (led routine_request) (request-handed a.suppress a.sub_function a.identifier a.«record».now e)) c.into.ensures
