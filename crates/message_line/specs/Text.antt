-- The line of each sort, from what was read of the input s.
use Rattle.std.specs.Prelude.{ℕ, ◌-◌, List, [], ◌∷◌, length, Option, Some, None}
use Rattle.paper.specs.Answer.{Answer, accepted, refused, written}
use Rattle.paper.specs.Form.{filled_in}
use Rattle.paper.specs.Kind.{mode_of}
use Rattle.paper.specs.Request.{after_name, write_request}
use Rattle.paper.specs.Response.{after_mode, write_response}
use Rattle.paper.specs.RoutineControl.{byte_of}
use Rattle.paper.specs.ReadingProgram as paper
use Rattle.paper.specs.ReadingProgram.{dash, shown, format_shown}
use Rattle.paper.specs.WholeMessage.{file_request, file_response, request_byte, led}
use Rattle.paper.specs.MessageProgram.{request_text, response_text, response_format, routine_request_text, routine_response_text, negative_text}
use Rattle.file_operation.specs.Mode.{kind_of}
use Rattle.request_file_transfer.specs.Reading as request
use Rattle.request_file_transfer.specs.declared.read.RequestFileTransferRequest.{RequestFileTransferRequest}
use Rattle.request_file_transfer_response.specs.Reading as response
use Rattle.request_file_transfer_response.specs.declared.read.RequestFileTransferResponse.{RequestFileTransferResponse}
use Rattle.routine_control.specs.SubFunction.{sub_of}
use Rattle.routine_control.specs.declared.request.RoutineControlRequest.{RoutineControlRequest}
use Rattle.routine_control.specs.declared.response.RoutineControlResponse.{RoutineControlResponse}
use Rattle.message.specs.Service.{service_of}
use Rattle.message.specs.declared.negative.NegativeAnswer.{NegativeAnswer}
use Rattle.message_line.specs.declared.text.Transfer.{Transfer}

abbrev pub shown_of : Option ℕ → paper.Shown
shown_of None = dash
shown_of (Some b) = shown b

-- a form with a blank for the format byte, or one with a dash there, filled in
abbrev pub filled_by : (with_byte with_dash : List ℕ) → (kind part normal left : ℕ) → Option ℕ → List ℕ
filled_by with_byte with_dash k p n l (Some f) = filled_in with_byte (k ∷ p ∷ f ∷ n ∷ l ∷ [])
filled_by with_byte with_dash k p n l None = filled_in with_dash (k ∷ p ∷ n ∷ l ∷ [])

-- with what a line tells
abbrev pub transfer_text : (with_byte with_dash : List ℕ) → Transfer → List ℕ
transfer_text with_byte with_dash t = filled_by with_byte with_dash t.kind t.part t.normal t.left t.format

-- how many bytes a writer needs, by its answer about a room that has none
abbrev pub needed_in : Answer ℕ → ℕ
needed_in (accepted n) = n
needed_in (refused r) = r.first

abbrev pub request_normal : List ℕ → RequestFileTransferRequest → ℕ
request_normal s q = needed_in (written (led file_request (write_request (request.meant s q))) []).answer

abbrev pub response_normal : List ℕ → RequestFileTransferResponse → ℕ
response_normal s q = needed_in (written (led file_response (write_response (response.meant s q))) []).answer

abbrev pub request_line : List ℕ → RequestFileTransferRequest → ℕ → List ℕ
request_line s q tail =
    request_text (format_shown (after_name (kind_of q.kind)) q.data_format_identifier.0) (mode_of (kind_of q.kind)) q.file_path_and_name.len (request_normal s q) (length s - tail)

abbrev pub response_line : List ℕ → RequestFileTransferResponse → ℕ → List ℕ
response_line s q tail =
    response_text (response_format (after_mode (kind_of q.kind)) q.data_format_identifier.0) (mode_of (kind_of q.kind)) q.max_number_of_block_length.len (response_normal s q) (length s - tail)

abbrev pub routine_request_line : RoutineControlRequest → List ℕ
routine_request_line q = routine_request_text (byte_of (sub_of q.sub_function)) q.suppress_positive_response q.routine_id q.option_record.len

abbrev pub routine_response_line : RoutineControlResponse → List ℕ
routine_response_line q = routine_response_text (byte_of (sub_of q.sub_function)) q.routine_id q.status_record.len

abbrev pub negative_line : NegativeAnswer → List ℕ
negative_line q = negative_text (request_byte (service_of q.service)) q.code q.listed
