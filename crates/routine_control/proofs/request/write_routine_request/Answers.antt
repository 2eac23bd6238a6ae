-- `routine_control::request::write_routine_request` meets its contract: the three parts after the first byte's own.
use Rattle.paper.specs.RoutineControl.{routine_request_bytes, write_routine_request}
use Rattle.routine_control.proofs.request.write_routine_request.Goals as goal

pub returns : goal.returns
unfolding write_routine_request routine_request_bytes
returns c = rw c.from.ensures at c.write_routine.ensures
