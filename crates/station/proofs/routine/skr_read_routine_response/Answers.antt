-- `station::routine::skr_read_routine_response` meets its contract: the record of what was read is that of the paper's answer.
use Rattle.station.proofs.Routines.{routine_response_flat}
use Rattle.station.proofs.routine.skr_read_routine_response.Goals as goal

pub returns : goal.returns
returns c = routine_response_flat c.args.message.now c.read_routine_response.result c.read_routine_response.ensures c.flat.ensures
