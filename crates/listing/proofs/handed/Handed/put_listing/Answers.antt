-- `Handed::put_listing` meets its contract: the head, and the records in the room behind it.
use borrow.Author.Rules.{rules}
use mathlib.Core.Path.{refl}
use Rattle.wire.proofs.Over.{filled_more, filled_as}
use Rattle.wire.proofs.Writes.{refuses, writes, filled}
use Rattle.listing.specs.Listing.{sub_of}
use Rattle.listing.proofs.Writing.{length_listing, with-head}
use Rattle.listing.proofs.handed.Handed.put_listing.Goals as goal

pub returns-then-room-needed : goal.returns-then-room-needed
returns-then-room-needed c =
    let h = c.args.self.now in
    refuses _ (rw c.record_size.ensures.size (length_listing (sub_of c.args.sub) c.args.mask.bits h.bytes.now h.count)) (search rules)

pub returns : goal.returns
returns c =
    let h = c.args.self.now in
    writes _ (rw c.record_size.ensures.size (length_listing (sub_of c.args.sub) c.args.mask.bits h.bytes.now h.count)) (search rules)
    (filled_as (with-head _ _ h.bytes.now h.count) (filled_more 3 (filled refl c.put_head.ensures) (filled refl c.put_records.ensures) refl))
