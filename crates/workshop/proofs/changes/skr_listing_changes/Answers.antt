-- `workshop::changes::skr_listing_changes` meets its contract: the record of what the comparison says, and the room as it was left.
use Rattle.workshop.proofs.TwoSubs.{changes_flat}
use Rattle.workshop.proofs.changes.skr_listing_changes.Goals as goal

pub returns : goal.returns
returns c = changes_flat c.compare.result c.compare.ensures c.flat.ensures
