-- No second record meets the contract of a door, and for a writer no second final contents of the room.
-- Assumes nothing.
use mathlib.Core.Path.{◌≡◌, sym, ◌∙◌}
use contract.Lifetimes.{Lfts}
use denote.Triple.Clauses.{AtExit}
use borrow.Fn.Kinds.{ended_of}
use borrow.Fn.World.{ArgsD}
use Rattle.wire.proofs.Unique.{Determined}
use Rattle.station.specs.declared.records.WrittenRecord.{WrittenRecord}
use Rattle.parts.proofs.read.skr_read_name.Kinds as read-name-kinds
use Rattle.parts.proofs.read.skr_read_name.Reads as read-name-reads
use Rattle.parts.proofs.read.skr_read_block_length.Kinds as read-block-length-kinds
use Rattle.parts.proofs.read.skr_read_block_length.Reads as read-block-length-reads
use Rattle.parts.proofs.read.skr_read_sizes.Kinds as read-sizes-kinds
use Rattle.parts.proofs.read.skr_read_sizes.Reads as read-sizes-reads
use Rattle.parts.proofs.read.skr_read_file_sizes.Kinds as read-file-sizes-kinds
use Rattle.parts.proofs.read.skr_read_file_sizes.Reads as read-file-sizes-reads
use Rattle.parts.proofs.read.skr_read_dir_size.Kinds as read-dir-size-kinds
use Rattle.parts.proofs.read.skr_read_dir_size.Reads as read-dir-size-reads
use Rattle.parts.proofs.read.skr_read_position.Kinds as read-position-kinds
use Rattle.parts.proofs.read.skr_read_position.Reads as read-position-reads
use Rattle.parts.specs.contracts.write.skr_write_name as write-name
use Rattle.parts.proofs.write.skr_write_name.Kinds as write-name-kinds
use Rattle.parts.proofs.write.skr_write_name.Reads as write-name-reads
use Rattle.parts.specs.contracts.write.skr_write_block_length as write-block-length
use Rattle.parts.proofs.write.skr_write_block_length.Kinds as write-block-length-kinds
use Rattle.parts.proofs.write.skr_write_block_length.Reads as write-block-length-reads
use Rattle.parts.specs.contracts.write.skr_write_sizes as write-sizes
use Rattle.parts.proofs.write.skr_write_sizes.Kinds as write-sizes-kinds
use Rattle.parts.proofs.write.skr_write_sizes.Reads as write-sizes-reads
use Rattle.parts.specs.contracts.write.skr_write_file_sizes as write-file-sizes
use Rattle.parts.proofs.write.skr_write_file_sizes.Kinds as write-file-sizes-kinds
use Rattle.parts.proofs.write.skr_write_file_sizes.Reads as write-file-sizes-reads
use Rattle.parts.specs.contracts.write.skr_write_dir_size as write-dir-size
use Rattle.parts.proofs.write.skr_write_dir_size.Kinds as write-dir-size-kinds
use Rattle.parts.proofs.write.skr_write_dir_size.Reads as write-dir-size-reads
use Rattle.parts.specs.contracts.write.skr_write_position as write-position
use Rattle.parts.proofs.write.skr_write_position.Kinds as write-position-kinds
use Rattle.parts.proofs.write.skr_write_position.Reads as write-position-reads
use Rattle.parts.proofs.read.PartRecordFromTuple2PlaceUsize.from.Kinds as accepted-part-kinds
use Rattle.parts.proofs.read.PartRecordFromTuple2PlaceUsize.from.Reads as accepted-part-reads
use Rattle.parts.proofs.read.PartRecordFromRefusal.from.Kinds as refused-part-kinds
use Rattle.parts.proofs.read.PartRecordFromRefusal.from.Reads as refused-part-reads
use Rattle.parts.proofs.read.SizesRecordFromTuple2TwoSizesUsize.from.Kinds as accepted-sizes-kinds
use Rattle.parts.proofs.read.SizesRecordFromTuple2TwoSizesUsize.from.Reads as accepted-sizes-reads
use Rattle.parts.proofs.read.SizesRecordFromTuple2SizeUsize.from.Kinds as accepted-size-kinds
use Rattle.parts.proofs.read.SizesRecordFromTuple2SizeUsize.from.Reads as accepted-size-reads
use Rattle.parts.proofs.read.SizesRecordFromRefusal.from.Kinds as refused-sizes-kinds
use Rattle.parts.proofs.read.SizesRecordFromRefusal.from.Reads as refused-sizes-reads
use Rattle.parts.proofs.read.PositionRecordFromTuple2U64Usize.from.Kinds as accepted-position-kinds
use Rattle.parts.proofs.read.PositionRecordFromTuple2U64Usize.from.Reads as accepted-position-reads
use Rattle.parts.proofs.read.PositionRecordFromRefusal.from.Kinds as refused-position-kinds
use Rattle.parts.proofs.read.PositionRecordFromRefusal.from.Reads as refused-position-reads

-- ---- readers
pub read_name_determined : Determined 1 read-name-kinds.ps read-name-kinds.r read-name-reads.Post
read_name_determined κs a x y r₁ r₂ p q = p ∙ sym q

pub read_block_length_determined : Determined 1 read-block-length-kinds.ps read-block-length-kinds.r read-block-length-reads.Post
read_block_length_determined κs a x y r₁ r₂ p q = p ∙ sym q

pub read_sizes_determined : Determined 1 read-sizes-kinds.ps read-sizes-kinds.r read-sizes-reads.Post
read_sizes_determined κs a x y r₁ r₂ p q = p ∙ sym q

pub read_file_sizes_determined : Determined 1 read-file-sizes-kinds.ps read-file-sizes-kinds.r read-file-sizes-reads.Post
read_file_sizes_determined κs a x y r₁ r₂ p q = p ∙ sym q

pub read_dir_size_determined : Determined 1 read-dir-size-kinds.ps read-dir-size-kinds.r read-dir-size-reads.Post
read_dir_size_determined κs a x y r₁ r₂ p q = p ∙ sym q

pub read_position_determined : Determined 1 read-position-kinds.ps read-position-kinds.r read-position-reads.Post
read_position_determined κs a x y r₁ r₂ p q = p ∙ sym q

-- ---- writers: the record, and what the room, the last parameter, holds at the exit
pub write_name_determined : (κs : Lfts 2) (a : ArgsD write-name.signature κs) (x y : AtExit (ended_of 2 write-name-kinds.ps write-name-kinds.r) κs) (r s : WrittenRecord)
    → write-name-reads.Post κs a r x → write-name-reads.Post κs a s y → (r ≡ s) × (x.1.0.now ≡ y.1.0.now)
write_name_determined κs a x y r s p q = (p.0 ∙ sym q.0, p.1 ∙ sym q.1)

pub write_block_length_determined : (κs : Lfts 2) (a : ArgsD write-block-length.signature κs) (x y : AtExit (ended_of 2 write-block-length-kinds.ps write-block-length-kinds.r) κs) (r s : WrittenRecord)
    → write-block-length-reads.Post κs a r x → write-block-length-reads.Post κs a s y → (r ≡ s) × (x.1.0.now ≡ y.1.0.now)
write_block_length_determined κs a x y r s p q = (p.0 ∙ sym q.0, p.1 ∙ sym q.1)

pub write_sizes_determined : (κs : Lfts 1) (a : ArgsD write-sizes.signature κs) (x y : AtExit (ended_of 1 write-sizes-kinds.ps write-sizes-kinds.r) κs) (r s : WrittenRecord)
    → write-sizes-reads.Post κs a r x → write-sizes-reads.Post κs a s y → (r ≡ s) × (x.1.1.1.1.0.now ≡ y.1.1.1.1.0.now)
write_sizes_determined κs a x y r s p q = (p.0 ∙ sym q.0, p.1 ∙ sym q.1)

pub write_file_sizes_determined : (κs : Lfts 1) (a : ArgsD write-file-sizes.signature κs) (x y : AtExit (ended_of 1 write-file-sizes-kinds.ps write-file-sizes-kinds.r) κs) (r s : WrittenRecord)
    → write-file-sizes-reads.Post κs a r x → write-file-sizes-reads.Post κs a s y → (r ≡ s) × (x.1.1.1.1.0.now ≡ y.1.1.1.1.0.now)
write_file_sizes_determined κs a x y r s p q = (p.0 ∙ sym q.0, p.1 ∙ sym q.1)

pub write_dir_size_determined : (κs : Lfts 1) (a : ArgsD write-dir-size.signature κs) (x y : AtExit (ended_of 1 write-dir-size-kinds.ps write-dir-size-kinds.r) κs) (r s : WrittenRecord)
    → write-dir-size-reads.Post κs a r x → write-dir-size-reads.Post κs a s y → (r ≡ s) × (x.1.1.0.now ≡ y.1.1.0.now)
write_dir_size_determined κs a x y r s p q = (p.0 ∙ sym q.0, p.1 ∙ sym q.1)

pub write_position_determined : (κs : Lfts 1) (a : ArgsD write-position.signature κs) (x y : AtExit (ended_of 1 write-position-kinds.ps write-position-kinds.r) κs) (r s : WrittenRecord)
    → write-position-reads.Post κs a r x → write-position-reads.Post κs a s y → (r ≡ s) × (x.1.0.now ≡ y.1.0.now)
write_position_determined κs a x y r s p q = (p.0 ∙ sym q.0, p.1 ∙ sym q.1)

-- ---- the conversions
pub accepted_part_determined : Determined 0 accepted-part-kinds.ps accepted-part-kinds.r accepted-part-reads.Post
accepted_part_determined κs a x y r₁ r₂ p q = p ∙ sym q

pub refused_part_determined : Determined 0 refused-part-kinds.ps refused-part-kinds.r refused-part-reads.Post
refused_part_determined κs a x y r₁ r₂ p q = p ∙ sym q

pub accepted_sizes_determined : Determined 0 accepted-sizes-kinds.ps accepted-sizes-kinds.r accepted-sizes-reads.Post
accepted_sizes_determined κs a x y r₁ r₂ p q = p ∙ sym q

pub accepted_size_determined : Determined 0 accepted-size-kinds.ps accepted-size-kinds.r accepted-size-reads.Post
accepted_size_determined κs a x y r₁ r₂ p q = p ∙ sym q

pub refused_sizes_determined : Determined 0 refused-sizes-kinds.ps refused-sizes-kinds.r refused-sizes-reads.Post
refused_sizes_determined κs a x y r₁ r₂ p q = p ∙ sym q

pub accepted_position_determined : Determined 0 accepted-position-kinds.ps accepted-position-kinds.r accepted-position-reads.Post
accepted_position_determined κs a x y r₁ r₂ p q = p ∙ sym q

pub refused_position_determined : Determined 0 refused-position-kinds.ps refused-position-kinds.r refused-position-reads.Post
refused_position_determined κs a x y r₁ r₂ p q = p ∙ sym q
