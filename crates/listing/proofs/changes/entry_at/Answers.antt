-- `entry_at` meets its contract: the record, and what was found of its code.
use Rattle.listing.specs.Searchable.{searched}
use Rattle.listing.proofs.Comparing.{entry-is}
use Rattle.listing.proofs.changes.entry_at.Goals as goal

pub returns : goal.returns
returns c = entry-is c.args.half (searched c.args.other.now) c.entry.ensures c.at-listed.ensures c.find.ensures
