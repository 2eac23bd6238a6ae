-- `station::routine::skr_read_routine_request` meets its contract: the record of what was read is that of the paper's answer.
use Rattle.station.proofs.Routines.{routine_request_flat}
use Rattle.station.proofs.routine.skr_read_routine_request.Goals as goal

pub returns : goal.returns
returns c = routine_request_flat c.args.message.now c.read_routine_request.result c.read_routine_request.ensures c.flat.ensures
