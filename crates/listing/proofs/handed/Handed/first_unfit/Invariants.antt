-- `Handed::first_unfit` meets its contract: the first records fit, so that the search goes on behind them.
use Rattle.paper.specs.Listing.{unfit}
use Rattle.paper.proofs.FirstPlace.{PassedOver}
use Rattle.listing.specs.Listing.{sub_of}
use Rattle.listing.specs.Handed.{listed_in}
use Rattle.listing.proofs.handed.Handed.first_unfit.Given as goal

abbrev pub invariant-loop-place : goal.invariant-loop-place
invariant-loop-place l = PassedOver (unfit (sub_of l.sub)) (listed_in l.self) l.place
