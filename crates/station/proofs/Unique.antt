-- No second record meets the contract of a door, and for a writer no second final contents of the room.
-- Assumes nothing.
use mathlib.Core.Path.{◌≡◌, sym, ◌∙◌}
use contract.Lifetimes.{Lfts}
use denote.Triple.Clauses.{AtExit}
use borrow.Fn.Kinds.{ended_of}
use borrow.Fn.World.{ArgsD}
use Rattle.paper.proofs.Utf8.{longest_once}
use Rattle.wire.proofs.Unique.{Determined}
use Rattle.station.specs.declared.records.WrittenRecord.{WrittenRecord}
use Rattle.station.specs.declared.records.RewrittenRecord.{RewrittenRecord}
use Rattle.station.proofs.transfer.skr_read_request.Kinds as read-request-kinds
use Rattle.station.proofs.transfer.skr_read_request.Reads as read-request-reads
use Rattle.station.proofs.transfer.skr_read_response.Kinds as read-response-kinds
use Rattle.station.proofs.transfer.skr_read_response.Reads as read-response-reads
use Rattle.station.proofs.routine.skr_read_routine_request.Kinds as read-routine-request-kinds
use Rattle.station.proofs.routine.skr_read_routine_request.Reads as read-routine-request-reads
use Rattle.station.proofs.routine.skr_read_routine_response.Kinds as read-routine-response-kinds
use Rattle.station.proofs.routine.skr_read_routine_response.Reads as read-routine-response-reads
use Rattle.station.proofs.transfer.skr_desk_check.Kinds as desk-check-kinds
use Rattle.station.proofs.transfer.skr_desk_check.Reads as desk-check-reads
use Rattle.station.proofs.trouble.skr_dtc_from_number.Kinds as dtc-from-number-kinds
use Rattle.station.proofs.trouble.skr_dtc_from_number.Reads as dtc-from-number-reads
use Rattle.station.proofs.trouble.skr_dtc_next.Kinds as dtc-next-kinds
use Rattle.station.proofs.trouble.skr_dtc_next.Reads as dtc-next-reads
use Rattle.station.proofs.trouble.skr_valid_up_to.Kinds as valid-up-to-kinds
use Rattle.station.proofs.trouble.skr_valid_up_to.Reads as valid-up-to-reads
use Rattle.station.specs.contracts.transfer.skr_write_request as write-request
use Rattle.station.proofs.transfer.skr_write_request.Kinds as write-request-kinds
use Rattle.station.proofs.transfer.skr_write_request.Reads as write-request-reads
use Rattle.station.specs.contracts.transfer.skr_write_response as write-response
use Rattle.station.proofs.transfer.skr_write_response.Kinds as write-response-kinds
use Rattle.station.proofs.transfer.skr_write_response.Reads as write-response-reads
use Rattle.station.specs.contracts.routine.skr_write_routine_request as write-routine-request
use Rattle.station.proofs.routine.skr_write_routine_request.Kinds as write-routine-request-kinds
use Rattle.station.proofs.routine.skr_write_routine_request.Reads as write-routine-request-reads
use Rattle.station.specs.contracts.routine.skr_write_routine_response as write-routine-response
use Rattle.station.proofs.routine.skr_write_routine_response.Kinds as write-routine-response-kinds
use Rattle.station.proofs.routine.skr_write_routine_response.Reads as write-routine-response-reads
use Rattle.station.specs.contracts.transfer.skr_rewrite_request as rewrite-request
use Rattle.station.proofs.transfer.skr_rewrite_request.Kinds as rewrite-request-kinds
use Rattle.station.proofs.transfer.skr_rewrite_request.Reads as rewrite-request-reads
use Rattle.station.specs.contracts.transfer.skr_rewrite_response as rewrite-response
use Rattle.station.proofs.transfer.skr_rewrite_response.Kinds as rewrite-response-kinds
use Rattle.station.proofs.transfer.skr_rewrite_response.Reads as rewrite-response-reads
use Rattle.station.proofs.transfer.request_sizes.Kinds as request-sizes-kinds
use Rattle.station.proofs.transfer.request_sizes.Reads as request-sizes-reads
use Rattle.station.proofs.transfer.response_sizes.Kinds as response-sizes-kinds
use Rattle.station.proofs.transfer.response_sizes.Reads as response-sizes-reads
use Rattle.station.proofs.transfer.FileTransferRecordFromTuple2RequestFileTransferRequestUsize.from.Kinds as accepted-request-kinds
use Rattle.station.proofs.transfer.FileTransferRecordFromTuple2RequestFileTransferRequestUsize.from.Reads as accepted-request-reads
use Rattle.station.proofs.transfer.FileTransferRecordFromTuple2RequestFileTransferResponseUsize.from.Kinds as accepted-response-kinds
use Rattle.station.proofs.transfer.FileTransferRecordFromTuple2RequestFileTransferResponseUsize.from.Reads as accepted-response-reads
use Rattle.station.proofs.records.FileTransferRecordFromRefusal.from.Kinds as refused-transfer-kinds
use Rattle.station.proofs.records.FileTransferRecordFromRefusal.from.Reads as refused-transfer-reads
use Rattle.station.proofs.routine.RoutineRecordFromRoutineControlRequest.from.Kinds as accepted-routine-request-kinds
use Rattle.station.proofs.routine.RoutineRecordFromRoutineControlRequest.from.Reads as accepted-routine-request-reads
use Rattle.station.proofs.routine.RoutineRecordFromRoutineControlResponse.from.Kinds as accepted-routine-response-kinds
use Rattle.station.proofs.routine.RoutineRecordFromRoutineControlResponse.from.Reads as accepted-routine-response-reads
use Rattle.station.proofs.records.RoutineRecordFromRefusal.from.Kinds as refused-routine-kinds
use Rattle.station.proofs.records.RoutineRecordFromRefusal.from.Reads as refused-routine-reads
use Rattle.station.proofs.records.WrittenRecordFromUsize.from.Kinds as accepted-write-kinds
use Rattle.station.proofs.records.WrittenRecordFromUsize.from.Reads as accepted-write-reads
use Rattle.station.proofs.records.WrittenRecordFromRefusal.from.Kinds as refused-write-kinds
use Rattle.station.proofs.records.WrittenRecordFromRefusal.from.Reads as refused-write-reads
use Rattle.station.proofs.records.RewrittenRecordFromTuple2UsizeUsize.from.Kinds as accepted-rewriting-kinds
use Rattle.station.proofs.records.RewrittenRecordFromTuple2UsizeUsize.from.Reads as accepted-rewriting-reads
use Rattle.station.proofs.records.RewrittenRecordFromRefusal.from.Kinds as refused-rewriting-kinds
use Rattle.station.proofs.records.RewrittenRecordFromRefusal.from.Reads as refused-rewriting-reads
use Rattle.station.proofs.records.DeskRecordFromUnit.from.Kinds as passed-desk-kinds
use Rattle.station.proofs.records.DeskRecordFromUnit.from.Reads as passed-desk-reads
use Rattle.station.proofs.records.DeskRecordFromRefusal.from.Kinds as refused-desk-kinds
use Rattle.station.proofs.records.DeskRecordFromRefusal.from.Reads as refused-desk-reads
use Rattle.station.proofs.trouble.TroubleCodeRecordFromDtcRecord.from.Kinds as accepted-code-kinds
use Rattle.station.proofs.trouble.TroubleCodeRecordFromDtcRecord.from.Reads as accepted-code-reads
use Rattle.station.proofs.records.TroubleCodeRecordFromRefusal.from.Kinds as refused-code-kinds
use Rattle.station.proofs.records.TroubleCodeRecordFromRefusal.from.Reads as refused-code-reads
use Rattle.station.proofs.trouble.NextTroubleCodeRecordFromOptionTuple2DtcRecordUsize.from.Kinds as accepted-next-kinds
use Rattle.station.proofs.trouble.NextTroubleCodeRecordFromOptionTuple2DtcRecordUsize.from.Reads as accepted-next-reads
use Rattle.station.proofs.records.NextTroubleCodeRecordFromRefusal.from.Kinds as refused-next-kinds
use Rattle.station.proofs.records.NextTroubleCodeRecordFromRefusal.from.Reads as refused-next-reads

-- ---- readers and questions
pub read_request_determined : Determined 1 read-request-kinds.ps read-request-kinds.r read-request-reads.Post
read_request_determined κs a x y r₁ r₂ p q = p ∙ sym q

pub read_response_determined : Determined 1 read-response-kinds.ps read-response-kinds.r read-response-reads.Post
read_response_determined κs a x y r₁ r₂ p q = p ∙ sym q

pub read_routine_request_determined : Determined 1 read-routine-request-kinds.ps read-routine-request-kinds.r read-routine-request-reads.Post
read_routine_request_determined κs a x y r₁ r₂ p q = p ∙ sym q

pub read_routine_response_determined : Determined 1 read-routine-response-kinds.ps read-routine-response-kinds.r read-routine-response-reads.Post
read_routine_response_determined κs a x y r₁ r₂ p q = p ∙ sym q

pub desk_check_determined : Determined 1 desk-check-kinds.ps desk-check-kinds.r desk-check-reads.Post
desk_check_determined κs a x y r₁ r₂ p q = p ∙ sym q

pub dtc_from_number_determined : Determined 0 dtc-from-number-kinds.ps dtc-from-number-kinds.r dtc-from-number-reads.Post
dtc_from_number_determined κs a x y r₁ r₂ p q = p ∙ sym q

pub dtc_next_determined : Determined 1 dtc-next-kinds.ps dtc-next-kinds.r dtc-next-reads.Post
dtc_next_determined κs a x y r₁ r₂ p q = p ∙ sym q

pub valid_up_to_determined : Determined 1 valid-up-to-kinds.ps valid-up-to-kinds.r valid-up-to-reads.Post
valid_up_to_determined κs a x y r₁ r₂ p q = longest_once _ r₁ r₂ p q

-- ---- writers: the record, and what the room, the last parameter, holds at the exit
pub write_request_determined : (κs : Lfts 2) (a : ArgsD write-request.signature κs) (x y : AtExit (ended_of 2 write-request-kinds.ps write-request-kinds.r) κs) (r s : WrittenRecord)
    → write-request-reads.Post κs a r x → write-request-reads.Post κs a s y → (r ≡ s) × (x.1.1.1.1.1.1.1.0.now ≡ y.1.1.1.1.1.1.1.0.now)
write_request_determined κs a x y r s p q = (p.0 ∙ sym q.0, p.1 ∙ sym q.1)

pub write_response_determined : (κs : Lfts 2) (a : ArgsD write-response.signature κs) (x y : AtExit (ended_of 2 write-response-kinds.ps write-response-kinds.r) κs) (r s : WrittenRecord)
    → write-response-reads.Post κs a r x → write-response-reads.Post κs a s y → (r ≡ s) × (x.1.1.1.1.1.1.1.1.0.now ≡ y.1.1.1.1.1.1.1.1.0.now)
write_response_determined κs a x y r s p q = (p.0 ∙ sym q.0, p.1 ∙ sym q.1)

pub write_routine_request_determined : (κs : Lfts 2) (a : ArgsD write-routine-request.signature κs)
    (x y : AtExit (ended_of 2 write-routine-request-kinds.ps write-routine-request-kinds.r) κs) (r s : WrittenRecord)
    → write-routine-request-reads.Post κs a r x → write-routine-request-reads.Post κs a s y → (r ≡ s) × (x.1.1.1.1.0.now ≡ y.1.1.1.1.0.now)
write_routine_request_determined κs a x y r s p q = (p.0 ∙ sym q.0, p.1 ∙ sym q.1)

pub write_routine_response_determined : (κs : Lfts 2) (a : ArgsD write-routine-response.signature κs)
    (x y : AtExit (ended_of 2 write-routine-response-kinds.ps write-routine-response-kinds.r) κs) (r s : WrittenRecord)
    → write-routine-response-reads.Post κs a r x → write-routine-response-reads.Post κs a s y → (r ≡ s) × (x.1.1.1.0.now ≡ y.1.1.1.0.now)
write_routine_response_determined κs a x y r s p q = (p.0 ∙ sym q.0, p.1 ∙ sym q.1)

pub rewrite_request_determined : (κs : Lfts 2) (a : ArgsD rewrite-request.signature κs) (x y : AtExit (ended_of 2 rewrite-request-kinds.ps rewrite-request-kinds.r) κs) (r s : RewrittenRecord)
    → rewrite-request-reads.Post κs a r x → rewrite-request-reads.Post κs a s y → (r ≡ s) × (x.1.0.now ≡ y.1.0.now)
rewrite_request_determined κs a x y r s p q = (p.0 ∙ sym q.0, p.1 ∙ sym q.1)

pub rewrite_response_determined : (κs : Lfts 2) (a : ArgsD rewrite-response.signature κs) (x y : AtExit (ended_of 2 rewrite-response-kinds.ps rewrite-response-kinds.r) κs) (r s : RewrittenRecord)
    → rewrite-response-reads.Post κs a r x → rewrite-response-reads.Post κs a s y → (r ≡ s) × (x.1.0.now ≡ y.1.0.now)
rewrite_response_determined κs a x y r s p q = (p.0 ∙ sym q.0, p.1 ∙ sym q.1)

-- ---- the conversions that the doors of this crate and of others share; what `flat` hands out of them is settled with them (Flats.flat_determined)
pub request_sizes_determined : Determined 0 request-sizes-kinds.ps request-sizes-kinds.r request-sizes-reads.Post
request_sizes_determined κs a x y r₁ r₂ p q = p ∙ sym q

pub response_sizes_determined : Determined 0 response-sizes-kinds.ps response-sizes-kinds.r response-sizes-reads.Post
response_sizes_determined κs a x y r₁ r₂ p q = p ∙ sym q

pub accepted_request_determined : Determined 0 accepted-request-kinds.ps accepted-request-kinds.r accepted-request-reads.Post
accepted_request_determined κs a x y r₁ r₂ p q = p ∙ sym q

pub accepted_response_determined : Determined 0 accepted-response-kinds.ps accepted-response-kinds.r accepted-response-reads.Post
accepted_response_determined κs a x y r₁ r₂ p q = p ∙ sym q

pub refused_transfer_determined : Determined 0 refused-transfer-kinds.ps refused-transfer-kinds.r refused-transfer-reads.Post
refused_transfer_determined κs a x y r₁ r₂ p q = p ∙ sym q

pub accepted_routine_request_determined : Determined 0 accepted-routine-request-kinds.ps accepted-routine-request-kinds.r accepted-routine-request-reads.Post
accepted_routine_request_determined κs a x y r₁ r₂ p q = p ∙ sym q

pub accepted_routine_response_determined : Determined 0 accepted-routine-response-kinds.ps accepted-routine-response-kinds.r accepted-routine-response-reads.Post
accepted_routine_response_determined κs a x y r₁ r₂ p q = p ∙ sym q

pub refused_routine_determined : Determined 0 refused-routine-kinds.ps refused-routine-kinds.r refused-routine-reads.Post
refused_routine_determined κs a x y r₁ r₂ p q = p ∙ sym q

pub accepted_write_determined : Determined 0 accepted-write-kinds.ps accepted-write-kinds.r accepted-write-reads.Post
accepted_write_determined κs a x y r₁ r₂ p q = p ∙ sym q

pub refused_write_determined : Determined 0 refused-write-kinds.ps refused-write-kinds.r refused-write-reads.Post
refused_write_determined κs a x y r₁ r₂ p q = p ∙ sym q

pub accepted_rewriting_determined : Determined 0 accepted-rewriting-kinds.ps accepted-rewriting-kinds.r accepted-rewriting-reads.Post
accepted_rewriting_determined κs a x y r₁ r₂ p q = p ∙ sym q

pub refused_rewriting_determined : Determined 0 refused-rewriting-kinds.ps refused-rewriting-kinds.r refused-rewriting-reads.Post
refused_rewriting_determined κs a x y r₁ r₂ p q = p ∙ sym q

pub passed_desk_determined : Determined 0 passed-desk-kinds.ps passed-desk-kinds.r passed-desk-reads.Post
passed_desk_determined κs a x y r₁ r₂ p q = p ∙ sym q

pub refused_desk_determined : Determined 0 refused-desk-kinds.ps refused-desk-kinds.r refused-desk-reads.Post
refused_desk_determined κs a x y r₁ r₂ p q = p ∙ sym q

pub accepted_code_determined : Determined 0 accepted-code-kinds.ps accepted-code-kinds.r accepted-code-reads.Post
accepted_code_determined κs a x y r₁ r₂ p q = p ∙ sym q

pub refused_code_determined : Determined 0 refused-code-kinds.ps refused-code-kinds.r refused-code-reads.Post
refused_code_determined κs a x y r₁ r₂ p q = p ∙ sym q

pub accepted_next_determined : Determined 0 accepted-next-kinds.ps accepted-next-kinds.r accepted-next-reads.Post
accepted_next_determined κs a x y r₁ r₂ p q = p ∙ sym q

pub refused_next_determined : Determined 0 refused-next-kinds.ps refused-next-kinds.r refused-next-reads.Post
refused_next_determined κs a x y r₁ r₂ p q = p ∙ sym q
