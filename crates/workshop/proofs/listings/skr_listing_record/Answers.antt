-- `workshop::listings::skr_listing_record` meets its contract: the record of what stands at the place.
use Rattle.station.proofs.Flats.{flat_said}
use Rattle.workshop.specs.Listings.{placed_said}
use Rattle.workshop.proofs.listings.skr_listing_record.Goals as goal

pub returns : goal.returns
returns c = flat_said (λ r. r) placed_said c.record_in.result c.record_in.ensures c.flat.ensures
