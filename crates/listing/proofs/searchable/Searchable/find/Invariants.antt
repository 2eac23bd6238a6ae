-- `Searchable::find` meets its contract: so many records are left with the high byte, and some are; what is found from place k on is what is found.
use Prim.Native.Nat.{◌<◌}
use Rattle.dtc.specs.Status.{code_of}
use Rattle.paper.proofs.ListingIndex.{Searching}
use Rattle.listing.specs.Searchable.{searched}
use Rattle.listing.proofs.searchable.Searchable.find.Given as goal

abbrev pub invariant-loop-k : goal.invariant-loop-k
invariant-loop-k l = Searching (code_of l.code) (searched l.self) l.k l.left × (0 < l.left)
