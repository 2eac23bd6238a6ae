-- `station::routine::skr_write_routine_request` meets its contract: of a byte that is a sub-function the message is written, and one that is none is refused with nothing written.
use mathlib.Core.Path.{sym, ap, ◌∙◌}
use Rattle.routine_control.specs.SubFunction.{sub_said}
use Rattle.station.proofs.Written.{wrote_known, not_known}
use Rattle.station.proofs.Routines.{request-handed}
use Rattle.station.proofs.routine.skr_write_routine_request.Goals as goal

pub returns-in-Ok : goal.returns-in-Ok
returns-in-Ok c =
    let a = c.args in
    wrote_known (request-handed a.suppress a.sub_function a.identifier a.«record».now (sym (ap sub_said c.in-Ok.is) ∙ c.try_from.ensures)) c.write_routine_request.ensures c.flat.ensures

pub returns-in-Err : goal.returns-in-Err
returns-in-Err c =
    let a = c.args in
    not_known (request-handed a.suppress a.sub_function a.identifier a.«record».now (sym (ap sub_said c.in-Err.is) ∙ c.try_from.ensures)) c.into.ensures
