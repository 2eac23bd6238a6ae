-- `entry_len` meets its contract: an entry has six bytes.
use mathlib.Core.Path.{ap}
use lib.ListN.{length}
use Rattle.listing.proofs.Comparing.{no_entry, six_bytes}
use Rattle.listing.proofs.changes.entry_len.Goals as goal

pub returns-in-Some-clause-len : goal.returns-in-Some-clause-len
returns-in-Some-clause-len c = rw c.in-Some.is (six_bytes _)

pub returns-in-None-clause-len : goal.returns-in-None-clause-len
returns-in-None-clause-len c = rw c.in-None.is (ap length no_entry)
