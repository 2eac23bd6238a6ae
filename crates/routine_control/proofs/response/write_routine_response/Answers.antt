-- `routine_control::response::write_routine_response` meets its contract: the three parts after the first byte's own.
use Rattle.paper.specs.RoutineControl.{routine_response_bytes, write_routine_response}
use Rattle.routine_control.proofs.response.write_routine_response.Goals as goal

pub returns : goal.returns
unfolding write_routine_response routine_response_bytes
returns c = rw c.from.ensures at c.write_routine.ensures
