-- `workshop::listings::skr_read_listing` meets its contract: the record of what reading says is that of the paper's.
use Rattle.listing.specs.Listing.{head_said}
use Rattle.station.proofs.Flats.{flat_said}
use Rattle.workshop.specs.Listings.{listing_record}
use Rattle.workshop.proofs.listings.skr_read_listing.Goals as goal

pub returns : goal.returns
returns c = flat_said listing_record head_said c.head_in.result c.head_in.ensures c.flat.ensures
