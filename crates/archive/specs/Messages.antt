-- What the record of a whole message holds: number, first and second of a refusal, else the service byte and the fields of its sort. What the sort lacks is 0.
use Rattle.std.specs.Prelude.{ℕ}
use Rattle.paper.specs.Choice.{pick}
use Rattle.paper.specs.Answer.{Refusal, Answer, accepted, refused, Read, ◌leaving◌}
use Rattle.paper.specs.Response.{AfterMode, ended, block_and_format, after_mode}
use Rattle.paper.specs.WholeMessage.{file_request, routine_request, file_response, routine_response, negative_answer, service_byte, request_byte}
use Rattle.paper.specs.WholeMessage.{WholeMessage, a_file_request, a_routine_request, a_file_response, a_routine_response, a_negative_answer}
use Rattle.message.specs.Service.{service_of}
use Rattle.message.specs.declared.negative.NegativeAnswer.{NegativeAnswer}
use Rattle.message.specs.declared.read.Message.{Message}
use Rattle.station.specs.Records.{request_record, response_record, routine_request_record, routine_response_record}
use Rattle.station.specs.Flat.{bit_of, accepted_request, accepted_response, accepted_routine_request, accepted_routine_response}
use Rattle.station.specs.declared.records.FileTransferRecord.{FileTransferRecord}
use Rattle.station.specs.declared.records.RoutineRecord.{RoutineRecord}
use Rattle.archive.specs.declared.messages.MessageRecord.{MessageRecord}

-- the fields of a file transfer record, the place of the name or of the block length given anew
abbrev pub of_transfer : (service start : ℕ) → FileTransferRecord → MessageRecord
of_transfer service start x = record {
  number = x.number;
  first = x.first;
  second = x.second;
  service = service;
  kind = x.kind;
  start = start;
  len = x.len;
  format = x.format;
  uncompressed_high = x.uncompressed_high;
  uncompressed_low = x.uncompressed_low;
  compressed_high = x.compressed_high;
  compressed_low = x.compressed_low;
  position = x.position;
  tail = x.tail;
  suppress = 0;
  sub_function = 0;
  identifier = 0;
  negative_service = 0;
  code = 0;
  listed = 0;
}

-- the fields of a routine record, the place of the routine's own record given anew
abbrev pub of_routine : (service start : ℕ) → RoutineRecord → MessageRecord
of_routine service start x = record {
  number = x.number;
  first = x.first;
  second = x.second;
  service = service;
  kind = 0;
  start = start;
  len = x.len;
  format = 0;
  uncompressed_high = 0;
  uncompressed_low = 0;
  compressed_high = 0;
  compressed_low = 0;
  position = 0;
  tail = 0;
  suppress = x.suppress;
  sub_function = x.sub_function;
  identifier = x.identifier;
  negative_service = 0;
  code = 0;
  listed = 0;
}

-- no field of a file transfer, and none of a routine
abbrev pub bare_record : (number first second service negativeService code listed : ℕ) → MessageRecord
bare_record n a b service k c listed = record {
  number = n;
  first = a;
  second = b;
  service = service;
  kind = 0;
  start = 0;
  len = 0;
  format = 0;
  uncompressed_high = 0;
  uncompressed_low = 0;
  compressed_high = 0;
  compressed_low = 0;
  position = 0;
  tail = 0;
  suppress = 0;
  sub_function = 0;
  identifier = 0;
  negative_service = k;
  code = c;
  listed = listed;
}

abbrev pub refused_message : Refusal → MessageRecord
refused_message e = bare_record e.number e.first e.second 0 0 0 0

-- the block length of a whole response begins at 3, where the kind has one
abbrev pub block_begins_at : AfterMode → ℕ
block_begins_at ended = 0
block_begins_at (block_and_format more) = 3

-- of a message of n bytes; the name and the routine's record begin at 4
abbrev pub message_record : ℕ → Answer (Read WholeMessage) → MessageRecord
message_record n (accepted (a_file_request m leaving t)) = of_transfer (service_byte file_request) 4 (request_record n (accepted (m leaving t)))
message_record n (accepted (a_routine_request m leaving t)) = of_routine (service_byte routine_request) 4 (routine_request_record (accepted (m leaving t)))
message_record n (accepted (a_file_response m leaving t)) = of_transfer (service_byte file_response) (block_begins_at (after_mode m.kind)) (response_record n (accepted (m leaving t)))
message_record n (accepted (a_routine_response m leaving t)) = of_routine (service_byte routine_response) 4 (routine_response_record (accepted (m leaving t)))
message_record n (accepted (a_negative_answer m leaving t)) = bare_record 0 0 0 (service_byte negative_answer) (request_byte m.service) m.code (pick m.listed 1 0)
message_record n (refused e) = refused_message e

-- ---- the record of what the code read
abbrev pub of_negative : NegativeAnswer → MessageRecord
of_negative q = bare_record 0 0 0 0x7F (request_byte (service_of q.service)) q.code (bit_of q.listed)

abbrev pub accepted_message : Message → MessageRecord
accepted_message (Message.FileRequest q tail) = of_transfer 0x38 q.file_path_and_name.start (accepted_request q tail)
accepted_message (Message.RoutineRequest q) = of_routine 0x31 q.option_record.start (accepted_routine_request q)
accepted_message (Message.FileResponse q tail) = of_transfer 0x78 q.max_number_of_block_length.start (accepted_response q tail)
accepted_message (Message.RoutineResponse q) = of_routine 0x71 q.status_record.start (accepted_routine_response q)
accepted_message (Message.Negative q) = of_negative q
