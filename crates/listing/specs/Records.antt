-- The listing whose records were read, in the paper's terms.
use Rattle.std.specs.Prelude.{ℕ, List, get_or, Result, Ok, Err}
use Rattle.paper.specs.Answer.{Answer, accepted, refused}
use Rattle.paper.specs.Listing as paper
use Rattle.paper.specs.Listing.{listing}
use Rattle.wire.specs.Refusals.{row}
use Rattle.wire.specs.declared.refusal.Refusal.{Refusal}
use Rattle.listing.specs.Listing.{sub_of, records_of, record_here}
use Rattle.listing.specs.declared.records.Records.{Records}

abbrev pub listed_in : Records → List paper.Listed
listed_in r = records_of (sub_of r.sub) r.count r.message.now

-- the record at place k
abbrev pub listed_at : Records → ℕ → paper.Listed
listed_at r k = record_here (sub_of r.sub) r.message.now k

abbrev pub listing_of : Records → paper.Listing
listing_of r = listing (sub_of r.sub) (get_or r.message.now 2 0) (listed_in r)

-- what reading says
abbrev pub read_said : Result Records Refusal → Answer paper.Listing
read_said (Ok r) = accepted (listing_of r)
read_said (Err e) = refused (row e)
