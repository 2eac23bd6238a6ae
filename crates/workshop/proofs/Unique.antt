-- No second record meets the contract of a door, and for a writer no second final contents of the room.
-- Assumes nothing.
use mathlib.Core.Path.{◌≡◌, sym, ◌∙◌}
use contract.Lifetimes.{Lfts}
use denote.Triple.Clauses.{AtExit}
use borrow.Fn.Kinds.{ended_of}
use borrow.Fn.World.{ArgsD}
use Rattle.wire.proofs.Unique.{Determined}
use Rattle.station.specs.declared.records.WrittenRecord.{WrittenRecord}
use Rattle.workshop.specs.declared.changes.ChangesRecord.{ChangesRecord}
use Rattle.workshop.specs.contracts.changes.skr_listing_changes as listing-changes
use Rattle.workshop.proofs.changes.skr_listing_changes.Kinds as listing-changes-kinds
use Rattle.workshop.proofs.changes.skr_listing_changes.Reads as listing-changes-reads
use Rattle.workshop.proofs.listings.skr_read_listing.Kinds as read-listing-kinds
use Rattle.workshop.proofs.listings.skr_read_listing.Reads as read-listing-reads
use Rattle.workshop.proofs.listings.skr_listing_record.Kinds as listing-record-kinds
use Rattle.workshop.proofs.listings.skr_listing_record.Reads as listing-record-reads
use Rattle.workshop.proofs.listings.skr_listing_index.Kinds as listing-index-kinds
use Rattle.workshop.proofs.listings.skr_listing_index.Reads as listing-index-reads
use Rattle.workshop.proofs.listings.skr_listing_lookup.Kinds as listing-lookup-kinds
use Rattle.workshop.proofs.listings.skr_listing_lookup.Reads as listing-lookup-reads
use Rattle.workshop.specs.contracts.listings.skr_write_listing as write-listing
use Rattle.workshop.proofs.listings.skr_write_listing.Kinds as write-listing-kinds
use Rattle.workshop.proofs.listings.skr_write_listing.Reads as write-listing-reads
use Rattle.workshop.specs.contracts.texts.skr_code_text as code-text
use Rattle.workshop.proofs.texts.skr_code_text.Kinds as code-text-kinds
use Rattle.workshop.proofs.texts.skr_code_text.Reads as code-text-reads
use Rattle.workshop.proofs.texts.skr_read_code_text.Kinds as read-code-text-kinds
use Rattle.workshop.proofs.texts.skr_read_code_text.Reads as read-code-text-reads
use Rattle.workshop.specs.contracts.texts.skr_export_listing as export-listing
use Rattle.workshop.proofs.texts.skr_export_listing.Kinds as export-listing-kinds
use Rattle.workshop.proofs.texts.skr_export_listing.Reads as export-listing-reads
use Rattle.workshop.specs.contracts.texts.skr_import_listing as import-listing
use Rattle.workshop.proofs.texts.skr_import_listing.Kinds as import-listing-kinds
use Rattle.workshop.proofs.texts.skr_import_listing.Reads as import-listing-reads
use Rattle.workshop.proofs.listings.ListingRecordFromTuple2DtcStatusMaskUsize.from.Kinds as accepted-listing-kinds
use Rattle.workshop.proofs.listings.ListingRecordFromTuple2DtcStatusMaskUsize.from.Reads as accepted-listing-reads
use Rattle.workshop.proofs.listings.ListingRecordFromRefusal.from.Kinds as refused-listing-kinds
use Rattle.workshop.proofs.listings.ListingRecordFromRefusal.from.Reads as refused-listing-reads
use Rattle.workshop.proofs.listings.ListedRecordFromListed.from.Kinds as found-listed-kinds
use Rattle.workshop.proofs.listings.ListedRecordFromListed.from.Reads as found-listed-reads
use Rattle.workshop.proofs.listings.ListedRecordFromOptionListed.from.Kinds as placed-listed-kinds
use Rattle.workshop.proofs.listings.ListedRecordFromOptionListed.from.Reads as placed-listed-reads
use Rattle.workshop.proofs.listings.ListedRecordFromRefusal.from.Kinds as refused-listed-kinds
use Rattle.workshop.proofs.listings.ListedRecordFromRefusal.from.Reads as refused-listed-reads
use Rattle.workshop.proofs.listings.IndexRecordFromIndexed.from.Kinds as flat-index-kinds
use Rattle.workshop.proofs.listings.IndexRecordFromIndexed.from.Reads as flat-index-reads
use Rattle.workshop.proofs.listings.IndexRecordFromRefusal.from.Kinds as refused-index-kinds
use Rattle.workshop.proofs.listings.IndexRecordFromRefusal.from.Reads as refused-index-reads
use Rattle.workshop.proofs.listings.LookUpRecordFromTuple2UsizeListed.from.Kinds as found-look-up-kinds
use Rattle.workshop.proofs.listings.LookUpRecordFromTuple2UsizeListed.from.Reads as found-look-up-reads
use Rattle.workshop.proofs.listings.LookUpRecordFromRefusal.from.Kinds as refused-look-up-kinds
use Rattle.workshop.proofs.listings.LookUpRecordFromRefusal.from.Reads as refused-look-up-reads
use Rattle.workshop.proofs.changes.ChangesRecordFromUsize.from.Kinds as accepted-changes-kinds
use Rattle.workshop.proofs.changes.ChangesRecordFromUsize.from.Reads as accepted-changes-reads
use Rattle.workshop.proofs.changes.ChangesRecordFromChangesRefusal.from.Kinds as refused-changes-kinds
use Rattle.workshop.proofs.changes.ChangesRecordFromChangesRefusal.from.Reads as refused-changes-reads

-- ---- readers and questions
pub read_listing_determined : Determined 1 read-listing-kinds.ps read-listing-kinds.r read-listing-reads.Post
read_listing_determined κs a x y r₁ r₂ p q = p ∙ sym q

pub listing_record_determined : Determined 1 listing-record-kinds.ps listing-record-kinds.r listing-record-reads.Post
listing_record_determined κs a x y r₁ r₂ p q = p ∙ sym q

pub listing_index_determined : Determined 1 listing-index-kinds.ps listing-index-kinds.r listing-index-reads.Post
listing_index_determined κs a x y r₁ r₂ p q = p ∙ sym q

pub listing_lookup_determined : Determined 3 listing-lookup-kinds.ps listing-lookup-kinds.r listing-lookup-reads.Post
listing_lookup_determined κs a x y r₁ r₂ p q = p ∙ sym q

pub read_code_text_determined : Determined 1 read-code-text-kinds.ps read-code-text-kinds.r read-code-text-reads.Post
read_code_text_determined κs a x y r₁ r₂ p q = p ∙ sym q

-- ---- the writers: the record, and what the room, the last parameter, holds at the exit
pub write_listing_determined : (κs : Lfts 2) (a : ArgsD write-listing.signature κs) (x y : AtExit (ended_of 2 write-listing-kinds.ps write-listing-kinds.r) κs) (r s : WrittenRecord)
    → write-listing-reads.Post κs a r x → write-listing-reads.Post κs a s y → (r ≡ s) × (x.1.1.1.0.now ≡ y.1.1.1.0.now)
write_listing_determined κs a x y r s p q = (p.0 ∙ sym q.0, p.1 ∙ sym q.1)

pub code_text_determined : (κs : Lfts 1) (a : ArgsD code-text.signature κs) (x y : AtExit (ended_of 1 code-text-kinds.ps code-text-kinds.r) κs) (r s : WrittenRecord)
    → code-text-reads.Post κs a r x → code-text-reads.Post κs a s y → (r ≡ s) × (x.1.1.1.0.now ≡ y.1.1.1.0.now)
code_text_determined κs a x y r s p q = (p.0 ∙ sym q.0, p.1 ∙ sym q.1)

pub export_listing_determined : (κs : Lfts 2) (a : ArgsD export-listing.signature κs) (x y : AtExit (ended_of 2 export-listing-kinds.ps export-listing-kinds.r) κs) (r s : WrittenRecord)
    → export-listing-reads.Post κs a r x → export-listing-reads.Post κs a s y → (r ≡ s) × (x.1.1.0.now ≡ y.1.1.0.now)
export_listing_determined κs a x y r s p q = (p.0 ∙ sym q.0, p.1 ∙ sym q.1)

pub import_listing_determined : (κs : Lfts 2) (a : ArgsD import-listing.signature κs) (x y : AtExit (ended_of 2 import-listing-kinds.ps import-listing-kinds.r) κs) (r s : WrittenRecord)
    → import-listing-reads.Post κs a r x → import-listing-reads.Post κs a s y → (r ≡ s) × (x.1.1.0.now ≡ y.1.1.0.now)
import_listing_determined κs a x y r s p q = (p.0 ∙ sym q.0, p.1 ∙ sym q.1)

-- ---- the comparison: the same
pub listing_changes_determined : (κs : Lfts 3) (a : ArgsD listing-changes.signature κs) (x y : AtExit (ended_of 3 listing-changes-kinds.ps listing-changes-kinds.r) κs) (r s : ChangesRecord)
    → listing-changes-reads.Post κs a r x → listing-changes-reads.Post κs a s y → (r ≡ s) × (x.1.1.1.1.0.now ≡ y.1.1.1.1.0.now)
listing_changes_determined κs a x y r s p q = (p.0 ∙ sym q.0, p.1 ∙ sym q.1)

-- ---- the conversions
pub accepted_listing_determined : Determined 0 accepted-listing-kinds.ps accepted-listing-kinds.r accepted-listing-reads.Post
accepted_listing_determined κs a x y r₁ r₂ p q = p ∙ sym q

pub refused_listing_determined : Determined 0 refused-listing-kinds.ps refused-listing-kinds.r refused-listing-reads.Post
refused_listing_determined κs a x y r₁ r₂ p q = p ∙ sym q

pub found_listed_determined : Determined 0 found-listed-kinds.ps found-listed-kinds.r found-listed-reads.Post
found_listed_determined κs a x y r₁ r₂ p q = p ∙ sym q

pub placed_listed_determined : Determined 0 placed-listed-kinds.ps placed-listed-kinds.r placed-listed-reads.Post
placed_listed_determined κs a x y r₁ r₂ p q = p ∙ sym q

pub refused_listed_determined : Determined 0 refused-listed-kinds.ps refused-listed-kinds.r refused-listed-reads.Post
refused_listed_determined κs a x y r₁ r₂ p q = p ∙ sym q

pub flat_index_determined : Determined 0 flat-index-kinds.ps flat-index-kinds.r flat-index-reads.Post
flat_index_determined κs a x y r₁ r₂ p q = p ∙ sym q

pub refused_index_determined : Determined 0 refused-index-kinds.ps refused-index-kinds.r refused-index-reads.Post
refused_index_determined κs a x y r₁ r₂ p q = p ∙ sym q

pub found_look_up_determined : Determined 0 found-look-up-kinds.ps found-look-up-kinds.r found-look-up-reads.Post
found_look_up_determined κs a x y r₁ r₂ p q = p ∙ sym q

pub refused_look_up_determined : Determined 0 refused-look-up-kinds.ps refused-look-up-kinds.r refused-look-up-reads.Post
refused_look_up_determined κs a x y r₁ r₂ p q = p ∙ sym q

pub accepted_changes_determined : Determined 0 accepted-changes-kinds.ps accepted-changes-kinds.r accepted-changes-reads.Post
accepted_changes_determined κs a x y r₁ r₂ p q = p ∙ sym q

pub refused_changes_determined : Determined 0 refused-changes-kinds.ps refused-changes-kinds.r refused-changes-reads.Post
refused_changes_determined κs a x y r₁ r₂ p q = p ∙ sym q
