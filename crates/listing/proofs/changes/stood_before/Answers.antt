-- `stood_before` meets its contract: the first record that has the code stands before place k, or none does.
use Rattle.listing.specs.Listing.{sub_of}
use Rattle.listing.proofs.Comparing.{stood_so, stood_not}
use Rattle.listing.proofs.changes.stood_before.Goals as goal

pub returns-in-Some : goal.returns-in-Some
returns-in-Some c = let r = c.args.listing.now.records in stood_so (sub_of r.sub) r.message.now r.count c.args.k c.at.ensures c.in-Some.ensures

pub returns-in-None : goal.returns-in-None
returns-in-None c = let r = c.args.listing.now.records in stood_not (sub_of r.sub) r.message.now r.count c.args.k c.at.ensures c.in-None.ensures
