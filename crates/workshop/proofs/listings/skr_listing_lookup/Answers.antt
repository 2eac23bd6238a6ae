-- `workshop::listings::skr_listing_lookup` meets its contract: the record of what the lookup says is that of the paper's.
use Rattle.listing.specs.Index.{look_said}
use Rattle.station.proofs.Flats.{flat_said}
use Rattle.workshop.specs.Listings.{look_up_record}
use Rattle.workshop.proofs.listings.skr_listing_lookup.Goals as goal

pub returns : goal.returns
returns c = flat_said look_up_record look_said c.find_in.result (rw c.new-code.ensures at c.find_in.ensures) c.flat.ensures
