-- What the answers about the first byte of a routine message say, in the paper's terms.
use Rattle.std.specs.Prelude.{Bool, ℕ, ◌%◌, leb, Result, Ok, Err}
use Rattle.paper.specs.Answer.{Answer, accepted, refused}
use Rattle.paper.specs.RoutineControl.{SubFunction, start_routine, stop_routine, request_routine_results, known_sub}
use Rattle.wire.specs.Refusals.{row}
use Rattle.wire.specs.declared.refusal.Refusal.{Refusal}
use Rattle.routine_control.specs.declared.sub_function.RoutineControlSubFunction.{RoutineControlSubFunction}
use Rattle.routine_control.specs.declared.sub_function.RoutineControlSubFunction.TheVariants.{StartRoutine, StopRoutine, RequestRoutineResults}
use Rattle.routine_control.specs.declared.sub_function.SuppressablePositiveResponse.{SuppressablePositiveResponse}

abbrev pub sub_of : RoutineControlSubFunction → SubFunction
sub_of StartRoutine = start_routine
sub_of StopRoutine = stop_routine
sub_of RequestRoutineResults = request_routine_results

abbrev pub sub_said : Result RoutineControlSubFunction Refusal → Answer SubFunction
sub_said (Ok f) = accepted (sub_of f)
sub_said (Err e) = refused (row e)

-- the first byte of a request: whether to be silent, and the sub-function
pub record Control : Type 0 where
  pub suppress : Bool
  pub sub_function : SubFunction

abbrev pub control_of : Bool → Answer SubFunction → Answer Control
control_of suppress (accepted f) = accepted (record { suppress = suppress; sub_function = f })
control_of suppress (refused r) = refused r

-- bit 0x80 is "suppress", and the low seven bits are judged
unfoldable pub suppressable : ℕ → Answer Control
suppressable b = control_of (leb 128 b) (known_sub (b % 128))

abbrev pub suppress_said : Result SuppressablePositiveResponse Refusal → Answer Control
suppress_said (Ok c) = accepted (record { suppress = c.suppress_positive_response; sub_function = sub_of c.value })
suppress_said (Err e) = refused (row e)
