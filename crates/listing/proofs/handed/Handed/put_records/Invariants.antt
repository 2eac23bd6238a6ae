-- `Handed::put_records` meets its contract: the first k records stand at the start of the room, and the next is put behind them.
use Rattle.wire.specs.Writing.{Filled}
use Rattle.listing.specs.Listing.{sub_of}
use Rattle.listing.proofs.Writing.{up_to}
use Rattle.listing.proofs.handed.Handed.put_records.Given as goal

abbrev pub invariant-loop-k : goal.invariant-loop-k
invariant-loop-k l = Filled (up_to (sub_of l.sub) l.self.bytes.now l.k) l.initial.out l.out
