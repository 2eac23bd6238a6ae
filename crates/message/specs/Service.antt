-- The paper's sorts and services for the code's, and what the answers about a service byte say.
use Rattle.std.specs.Prelude.{Result, Ok, Err}
use Rattle.paper.specs.Answer.{Answer, accepted, refused}
use Rattle.paper.specs.WholeMessage as paper
use Rattle.paper.specs.WholeMessage.{file_request, routine_request, file_response, routine_response, negative_answer, file_transfer, routine_control}
use Rattle.wire.specs.Refusals.{row}
use Rattle.wire.specs.declared.refusal.Refusal.{Refusal}
use Rattle.message.specs.declared.service.Sort.{Sort}
use Rattle.message.specs.declared.service.Service.{Service}

-- ---- sorts
abbrev pub sort_of : Sort → paper.Sort
sort_of Sort.FileRequest = file_request
sort_of Sort.RoutineRequest = routine_request
sort_of Sort.FileResponse = file_response
sort_of Sort.RoutineResponse = routine_response
sort_of Sort.NegativeAnswer = negative_answer

abbrev pub sort_said : Result Sort Refusal → Answer paper.Sort
sort_said (Ok k) = accepted (sort_of k)
sort_said (Err e) = refused (row e)

-- ---- services
abbrev pub service_of : Service → paper.Service
service_of Service.FileTransfer = file_transfer
service_of Service.RoutineControl = routine_control

abbrev pub service_said : Result Service Refusal → Answer paper.Service
service_said (Ok k) = accepted (service_of k)
service_said (Err e) = refused (row e)
