-- The record of each answer of the code, field by field.
use Rattle.std.specs.Prelude.{ℕ, Bool, false, Option, Some, None, Result, Ok, Err}
use Rattle.paper.specs.Choice.{pick}
use Rattle.paper.specs.Kind.{mode_of}
use Rattle.paper.specs.RoutineControl.{byte_of}
use Rattle.wire.specs.declared.place.Place.{Place}
use Rattle.wire.specs.declared.size.Size.{Size}
use Rattle.file_operation.specs.Mode.{kind_of}
use Rattle.file_operation.specs.declared.mode.FileOperationMode.{FileOperationMode}
use Rattle.file_operation.specs.declared.payload.DataFormatIdentifier.{DataFormatIdentifier}
use Rattle.request_file_transfer.specs.declared.read.RequestFileTransferRequest.{RequestFileTransferRequest}
use Rattle.request_file_transfer_response.specs.declared.read.RequestFileTransferResponse.{RequestFileTransferResponse}
use Rattle.routine_control.specs.SubFunction.{sub_of}
use Rattle.routine_control.specs.declared.sub_function.RoutineControlSubFunction.{RoutineControlSubFunction}
use Rattle.routine_control.specs.declared.request.RoutineControlRequest.{RoutineControlRequest}
use Rattle.routine_control.specs.declared.response.RoutineControlResponse.{RoutineControlResponse}
use Rattle.dtc.specs.Status.{code_of}
use Rattle.dtc.specs.declared.status.DtcRecord.{DtcRecord}
use Rattle.station.specs.declared.records.FileTransferRecord.{FileTransferRecord}
use Rattle.station.specs.declared.records.RoutineRecord.{RoutineRecord}
use Rattle.station.specs.declared.records.RewrittenRecord.{RewrittenRecord}
use Rattle.station.specs.declared.records.NextTroubleCodeRecord.{NextTroubleCodeRecord}

-- r is the record of an answer: of what was accepted, or of the refusal
abbrev pub RecordOf : {A E R : Type 0} → (A → R → Type 0) → (E → R → Type 0) → Result A E → R → Type 0
RecordOf accepted refused (Ok a) r = accepted a r
RecordOf accepted refused (Err e) r = refused e r

-- a message that was accepted; a request has no position
abbrev pub accepted_message : FileOperationMode → Place → DataFormatIdentifier → (uncompressed compressed : Size) → (position tail : ℕ) → FileTransferRecord
accepted_message mode place format uncompressed compressed position tail = record {
  number = 0;
  first = 0;
  second = 0;
  kind = mode_of (kind_of mode);
  start = place.start;
  len = place.len;
  format = format.0;
  uncompressed_high = uncompressed.high;
  uncompressed_low = uncompressed.low;
  compressed_high = compressed.high;
  compressed_low = compressed.low;
  position = position;
  tail = tail;
}

abbrev pub accepted_request : RequestFileTransferRequest → ℕ → FileTransferRecord
accepted_request q tail = accepted_message q.kind q.file_path_and_name q.data_format_identifier q.size.file_size_uncompressed q.size.file_size_compressed 0 tail

abbrev pub accepted_response : RequestFileTransferResponse → ℕ → FileTransferRecord
accepted_response q tail =
    accepted_message q.kind q.max_number_of_block_length q.data_format_identifier q.file_size.file_size_uncompressed q.file_size.file_size_compressed
    q.position.file_position tail

-- 1 for true
abbrev pub bit_of : Bool → ℕ
bit_of b = pick b 1 0

-- a routine message that was accepted; a response never says to suppress
abbrev pub accepted_routine : Bool → RoutineControlSubFunction → ℕ → Place → RoutineRecord
accepted_routine suppress f identifier place = record {
  number = 0;
  first = 0;
  second = 0;
  suppress = bit_of suppress;
  sub_function = byte_of (sub_of f);
  identifier = identifier;
  start = place.start;
  len = place.len;
}

abbrev pub accepted_routine_request : RoutineControlRequest → RoutineRecord
accepted_routine_request q = accepted_routine q.suppress_positive_response q.sub_function q.routine_id q.option_record

abbrev pub accepted_routine_response : RoutineControlResponse → RoutineRecord
accepted_routine_response q = accepted_routine false q.sub_function q.routine_id q.status_record

abbrev pub accepted_rewriting : (written tail : ℕ) → RewrittenRecord
accepted_rewriting written tail = record { number = 0; first = 0; second = 0; written = written; tail = tail }

abbrev pub found_next : DtcRecord → ℕ → NextTroubleCodeRecord
found_next c tail = record { number = 0; first = 0; second = 0; found = 1; high = (code_of c).high; middle = (code_of c).middle; low = (code_of c).low; tail = tail }

-- where the list has ended there is none
abbrev pub accepted_next : Option (DtcRecord × ℕ) → NextTroubleCodeRecord
accepted_next None = record { number = 0; first = 0; second = 0; found = 0; high = 0; middle = 0; low = 0; tail = 0 }
accepted_next (Some (c, tail)) = found_next c tail
