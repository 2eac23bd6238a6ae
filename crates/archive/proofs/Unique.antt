-- No second record meets the contract of a door, and for a writer no second final contents of the room.
-- Assumes nothing.
use mathlib.Core.Path.{◌≡◌, sym, ◌∙◌}
use contract.Lifetimes.{Lfts}
use denote.Triple.Clauses.{AtExit}
use borrow.Fn.Kinds.{ended_of}
use borrow.Fn.World.{ArgsD}
use Rattle.wire.proofs.Unique.{Determined}
use Rattle.wire.proofs.UniqueWriting.{WritesOnce}
use Rattle.station.specs.declared.records.DeskRecord.{DeskRecord}
use Rattle.archive.specs.declared.joined.SplitRecord.{SplitRecord}
use Rattle.archive.proofs.sheet.skr_tally_records.Kinds as tally-records-kinds
use Rattle.archive.proofs.sheet.skr_tally_records.Reads as tally-records-reads
use Rattle.archive.proofs.replays.skr_replay_log.Kinds as replay-log-kinds
use Rattle.archive.proofs.replays.skr_replay_log.Reads as replay-log-reads
use Rattle.archive.proofs.replays.skr_replay_step.Kinds as replay-step-kinds
use Rattle.archive.proofs.replays.skr_replay_step.Reads as replay-step-reads
use Rattle.archive.proofs.why.skr_why_request.Kinds as why-request-kinds
use Rattle.archive.proofs.why.skr_why_request.Reads as why-request-reads
use Rattle.archive.proofs.why.skr_why_response.Kinds as why-response-kinds
use Rattle.archive.proofs.why.skr_why_response.Reads as why-response-reads
use Rattle.archive.specs.contracts.batches.skr_read_batch as read-batch
use Rattle.archive.proofs.batches.skr_read_batch.Kinds as read-batch-kinds
use Rattle.archive.proofs.batches.skr_read_batch.Reads as read-batch-reads
use Rattle.archive.specs.contracts.joined.skr_split_joined as split-joined
use Rattle.archive.proofs.joined.skr_split_joined.Kinds as split-joined-kinds
use Rattle.archive.proofs.joined.skr_split_joined.Reads as split-joined-reads
use Rattle.archive.proofs.messages.skr_read_message.Kinds as read-message-kinds
use Rattle.archive.proofs.messages.skr_read_message.Reads as read-message-reads
use Rattle.archive.proofs.messages.skr_write_request_message.Kinds as write-request-message-kinds
use Rattle.archive.proofs.messages.skr_write_request_message.Reads as write-request-message-reads
use Rattle.archive.proofs.messages.skr_write_response_message.Kinds as write-response-message-kinds
use Rattle.archive.proofs.messages.skr_write_response_message.Reads as write-response-message-reads
use Rattle.archive.proofs.messages.skr_write_routine_request_message.Kinds as write-routine-request-message-kinds
use Rattle.archive.proofs.messages.skr_write_routine_request_message.Reads as write-routine-request-message-reads
use Rattle.archive.proofs.messages.skr_write_routine_response_message.Kinds as write-routine-response-message-kinds
use Rattle.archive.proofs.messages.skr_write_routine_response_message.Reads as write-routine-response-message-reads
use Rattle.archive.proofs.messages.skr_write_negative.Kinds as write-negative-kinds
use Rattle.archive.proofs.messages.skr_write_negative.Reads as write-negative-reads
use Rattle.archive.proofs.messages.MessageRecordFromMessage.from.Kinds as accepted-message-kinds
use Rattle.archive.proofs.messages.MessageRecordFromMessage.from.Reads as accepted-message-reads
use Rattle.archive.proofs.messages.MessageRecordFromNegativeAnswer.from.Kinds as negative-message-kinds
use Rattle.archive.proofs.messages.MessageRecordFromNegativeAnswer.from.Reads as negative-message-reads
use Rattle.archive.proofs.messages.MessageRecordFromRefusal.from.Kinds as refused-message-kinds
use Rattle.archive.proofs.messages.MessageRecordFromRefusal.from.Reads as refused-message-reads
use Rattle.archive.proofs.replays.ReplayRecordFromState.from.Kinds as accepted-replay-kinds
use Rattle.archive.proofs.replays.ReplayRecordFromState.from.Reads as accepted-replay-reads
use Rattle.archive.proofs.replays.ReplayRecordFromStopped.from.Kinds as stopped-replay-kinds
use Rattle.archive.proofs.replays.ReplayRecordFromStopped.from.Reads as stopped-replay-reads
use Rattle.archive.proofs.joined.SplitRecordFromUsize.from.Kinds as accepted-split-kinds
use Rattle.archive.proofs.joined.SplitRecordFromUsize.from.Reads as accepted-split-reads
use Rattle.archive.proofs.joined.SplitRecordFromSplitError.from.Kinds as refused-split-kinds
use Rattle.archive.proofs.joined.SplitRecordFromSplitError.from.Reads as refused-split-reads
use Rattle.archive.proofs.sheet.TallyRecordFromSheet.from.Kinds as flat-sheet-kinds
use Rattle.archive.proofs.sheet.TallyRecordFromSheet.from.Reads as flat-sheet-reads
use Rattle.archive.proofs.why.WhyRecordFromUnit.from.Kinds as no-reason-kinds
use Rattle.archive.proofs.why.WhyRecordFromUnit.from.Reads as no-reason-reads
use Rattle.archive.proofs.why.WhyRecordFromReason.from.Kinds as a-reason-kinds
use Rattle.archive.proofs.why.WhyRecordFromReason.from.Reads as a-reason-reads

-- ---- readers and questions
pub why_request_determined : Determined 1 why-request-kinds.ps why-request-kinds.r why-request-reads.Post
why_request_determined κs a x y r₁ r₂ p q = p ∙ sym q

pub why_response_determined : Determined 1 why-response-kinds.ps why-response-kinds.r why-response-reads.Post
why_response_determined κs a x y r₁ r₂ p q = p ∙ sym q

pub read_message_determined : Determined 1 read-message-kinds.ps read-message-kinds.r read-message-reads.Post
read_message_determined κs a x y r₁ r₂ p q = p ∙ sym q

pub tally_records_determined : Determined 1 tally-records-kinds.ps tally-records-kinds.r tally-records-reads.Post
tally_records_determined κs a x y r₁ r₂ p q = p ∙ sym q

pub replay_log_determined : Determined 1 replay-log-kinds.ps replay-log-kinds.r replay-log-reads.Post
replay_log_determined κs a x y r₁ r₂ p q = p ∙ sym q

pub replay_step_determined : Determined 0 replay-step-kinds.ps replay-step-kinds.r replay-step-reads.Post
replay_step_determined κs a x y r₁ r₂ p q = p ∙ sym q

-- ---- a batch: the record, and what the list holds at the exit
pub read_batch_determined : (κs : Lfts 3) (a : ArgsD read-batch.signature κs) (x y : AtExit (ended_of 3 read-batch-kinds.ps read-batch-kinds.r) κs) (r s : DeskRecord)
    → read-batch-reads.Post κs a r x → read-batch-reads.Post κs a s y → (r ≡ s) × (x.1.1.0.now ≡ y.1.1.0.now)
read_batch_determined κs a x y r s p q = (p.0 ∙ sym q.0, p.1 ∙ sym q.1)

-- ---- a joined buffer: the record, and what the list holds at the exit
pub split_joined_determined : (κs : Lfts 2) (a : ArgsD split-joined.signature κs) (x y : AtExit (ended_of 2 split-joined-kinds.ps split-joined-kinds.r) κs) (r s : SplitRecord)
    → split-joined-reads.Post κs a r x → split-joined-reads.Post κs a s y → (r ≡ s) × (x.1.0.now ≡ y.1.0.now)
split_joined_determined κs a x y r s p q = (p.0 ∙ sym q.0, p.1 ∙ sym q.1)

-- ---- writers of whole messages: the record, and what the room, the last parameter, holds at the exit
pub write_request_message_determined : WritesOnce 2 write-request-message-kinds.ps write-request-message-kinds.r (λ κs x. x.1.1.1.1.1.1.1.0) write-request-message-reads.Post
write_request_message_determined κs a x y r₁ r₂ p q = (p.0 ∙ sym q.0, p.1 ∙ sym q.1)

pub write_response_message_determined : WritesOnce 2 write-response-message-kinds.ps write-response-message-kinds.r (λ κs x. x.1.1.1.1.1.1.1.1.0) write-response-message-reads.Post
write_response_message_determined κs a x y r₁ r₂ p q = (p.0 ∙ sym q.0, p.1 ∙ sym q.1)

pub write_routine_request_message_determined : WritesOnce 2 write-routine-request-message-kinds.ps write-routine-request-message-kinds.r (λ κs x. x.1.1.1.1.0) write-routine-request-message-reads.Post
write_routine_request_message_determined κs a x y r₁ r₂ p q = (p.0 ∙ sym q.0, p.1 ∙ sym q.1)

pub write_routine_response_message_determined : WritesOnce 2 write-routine-response-message-kinds.ps write-routine-response-message-kinds.r (λ κs x. x.1.1.1.0) write-routine-response-message-reads.Post
write_routine_response_message_determined κs a x y r₁ r₂ p q = (p.0 ∙ sym q.0, p.1 ∙ sym q.1)

pub write_negative_determined : WritesOnce 1 write-negative-kinds.ps write-negative-kinds.r (λ κs x. x.1.1.0) write-negative-reads.Post
write_negative_determined κs a x y r₁ r₂ p q = (p.0 ∙ sym q.0, p.1 ∙ sym q.1)

-- ---- the conversions
pub accepted_message_determined : Determined 0 accepted-message-kinds.ps accepted-message-kinds.r accepted-message-reads.Post
accepted_message_determined κs a x y r₁ r₂ p q = p ∙ sym q

pub negative_message_determined : Determined 0 negative-message-kinds.ps negative-message-kinds.r negative-message-reads.Post
negative_message_determined κs a x y r₁ r₂ p q = p ∙ sym q

pub refused_message_determined : Determined 0 refused-message-kinds.ps refused-message-kinds.r refused-message-reads.Post
refused_message_determined κs a x y r₁ r₂ p q = p ∙ sym q

pub accepted_replay_determined : Determined 0 accepted-replay-kinds.ps accepted-replay-kinds.r accepted-replay-reads.Post
accepted_replay_determined κs a x y r₁ r₂ p q = p ∙ sym q

pub stopped_replay_determined : Determined 0 stopped-replay-kinds.ps stopped-replay-kinds.r stopped-replay-reads.Post
stopped_replay_determined κs a x y r₁ r₂ p q = p ∙ sym q

pub accepted_split_determined : Determined 0 accepted-split-kinds.ps accepted-split-kinds.r accepted-split-reads.Post
accepted_split_determined κs a x y r₁ r₂ p q = p ∙ sym q

pub refused_split_determined : Determined 0 refused-split-kinds.ps refused-split-kinds.r refused-split-reads.Post
refused_split_determined κs a x y r₁ r₂ p q = p ∙ sym q

pub flat_sheet_determined : Determined 0 flat-sheet-kinds.ps flat-sheet-kinds.r flat-sheet-reads.Post
flat_sheet_determined κs a x y r₁ r₂ p q = p ∙ sym q

pub no_reason_determined : Determined 0 no-reason-kinds.ps no-reason-kinds.r no-reason-reads.Post
no_reason_determined κs a x y r₁ r₂ p q = p ∙ sym q

pub a_reason_determined : Determined 0 a-reason-kinds.ps a-reason-kinds.r a-reason-reads.Post
a_reason_determined κs a x y r₁ r₂ p q = p ∙ sym q
