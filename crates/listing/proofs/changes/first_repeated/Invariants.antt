-- `first_repeated` meets its contract: the codes of the first records didn't stand before, and what is told from there on is what is told.
use Rattle.paper.proofs.Repeats.{Repeating}
use Rattle.listing.specs.Searchable.{searched}
use Rattle.listing.proofs.changes.first_repeated.Given as goal

abbrev pub invariant-loop-place : goal.invariant-loop-place
invariant-loop-place l = Repeating (searched l.listing) l.place
