-- What the doors for listings take and hand out: a byte for the sub-function, and flat records.
use Rattle.std.specs.Prelude.{ℕ, List, replicate, eqb, Result, Ok, Err}
use Rattle.std.specs.Prelude as code-option
use Rattle.std.proofs.Math.Option.{Option, none, some}
use Rattle.std.proofs.Math.ListN.{get_elem?}
use Rattle.paper.specs.Choice.{pick}
use Rattle.paper.specs.Answer.{Refusal, Answer, accepted, refused, unknown_service}
use Rattle.paper.specs.Listing as paper
use Rattle.paper.specs.Listing.{SubFunction, by_status_mask, by_severity_mask, Listing, read_listing, Head, index_of, Found, write_handed}
use Rattle.wire.specs.Refusals.{row}
use Rattle.wire.specs.declared.refusal.Refusal as wire
use Rattle.dtc.specs.declared.status.Mask.{Mask}
use Rattle.dtc.specs.declared.status.Status.{Status}
use Rattle.listing.specs.Listing.{sub_of, record_said}
use Rattle.listing.specs.declared.SubFunction as code
use Rattle.listing.specs.declared.Listed.{Listed}
use Rattle.station.specs.Handed.{where_known}
use Rattle.workshop.specs.declared.listings.ListingRecord.{ListingRecord}
use Rattle.workshop.specs.declared.listings.ListedRecord.{ListedRecord}
use Rattle.workshop.specs.declared.listings.IndexRecord.{IndexRecord}
use Rattle.workshop.specs.declared.listings.LookUpRecord.{LookUpRecord}

-- ---- what is handed over
-- the sub-function of a byte: 15 where there is none
abbrev pub listing_sub : ℕ → Answer SubFunction
listing_sub b = pick (eqb b 0x02) (accepted by_status_mask) (pick (eqb b 0x08) (accepted by_severity_mask) (refused (unknown_service 0)))

abbrev pub sub_said : Result code.SubFunction wire.Refusal → Answer SubFunction
sub_said (Ok f) = accepted (sub_of f)
sub_said (Err e) = refused (row e)

-- a listing is read where its sub-function is known
abbrev pub read_known : List ℕ → Answer SubFunction → Answer Listing
read_known s (accepted f) = read_listing f s
read_known s (refused e) = refused e

unfoldable pub listing_handed : ℕ → List ℕ → Answer Listing
listing_handed b s = read_known s (listing_sub b)

-- and written
unfoldable pub write_sub_handed : ℕ → ℕ → List ℕ → Answer (List ℕ)
write_sub_handed b m records = where_known (listing_sub b) (λ (f : SubFunction). write_handed f m records)

-- ---- what is handed out
abbrev pub listing_record : Answer Head → ListingRecord
listing_record (accepted h) = record { number = 0; first = 0; second = 0; mask = h.mask; count = h.records }
listing_record (refused e) = record { number = e.number; first = e.first; second = e.second; mask = 0; count = 0 }

-- a record that stands there; a place past the end; a listing that is refused
abbrev pub found_listed : paper.Listed → ListedRecord
found_listed r = record {
  number = 0;
  first = 0;
  second = 0;
  found = 1;
  known = pick r.known 1 0;
  severity = r.severity;
  unit = r.functional_unit;
  high = r.code.high;
  middle = r.code.middle;
  low = r.code.low;
  status = r.status;
}

abbrev pub place_record : Option paper.Listed → ListedRecord
place_record (some r) = found_listed r
place_record none = record { number = 0; first = 0; second = 0; found = 0; known = 0; severity = 0; unit = 0; high = 0; middle = 0; low = 0; status = 0 }

abbrev pub refused_listed : Refusal → ListedRecord
refused_listed e = record { number = e.number; first = e.first; second = e.second; found = 0; known = 0; severity = 0; unit = 0; high = 0; middle = 0; low = 0; status = 0 }

abbrev pub listed_record : ℕ → Answer Listing → ListedRecord
listed_record k (accepted l) = place_record (get_elem? l.records k)
listed_record k (refused e) = refused_listed e

-- the record of what the code found at a place
abbrev pub placed_said : Result (code-option.Option Listed) wire.Refusal → ListedRecord
placed_said (Ok found) = place_record (record_said found)
placed_said (Err e) = refused_listed (row e)

-- an index
abbrev pub refused_index : Refusal → IndexRecord
refused_index e = record { number = e.number; first = e.first; second = e.second; counts = replicate 256 0; firsts = replicate 256 0 }

abbrev pub index_record : Answer Listing → IndexRecord
index_record (accepted l) = record { number = 0; first = 0; second = 0; counts = (index_of l.records).counts; firsts = (index_of l.records).firsts }
index_record (refused e) = refused_index e

-- two lists beside what reading says
abbrev pub flat_index : Result (Mask Status × ℕ) wire.Refusal → List ℕ → List ℕ → IndexRecord
flat_index (Ok head) cs fs = record { number = 0; first = 0; second = 0; counts = cs; firsts = fs }
flat_index (Err e) cs fs = record { number = (row e).number; first = (row e).first; second = (row e).second; counts = cs; firsts = fs }

-- a lookup
abbrev pub found_look_up : ℕ → paper.Listed → LookUpRecord
found_look_up k r = record {
  number = 0;
  first = 0;
  second = 0;
  place = k;
  known = pick r.known 1 0;
  severity = r.severity;
  unit = r.functional_unit;
  high = r.code.high;
  middle = r.code.middle;
  low = r.code.low;
  status = r.status;
}

abbrev pub refused_look_up : Refusal → LookUpRecord
refused_look_up e = record { number = e.number; first = e.first; second = e.second; place = 0; known = 0; severity = 0; unit = 0; high = 0; middle = 0; low = 0; status = 0 }

abbrev pub look_up_record : Answer Found → LookUpRecord
look_up_record (accepted x) = found_look_up x.place x.«record»
look_up_record (refused e) = refused_look_up e
