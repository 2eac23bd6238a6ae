-- `put_lines` meets its contract: the lines of the first k records stand at the start of the room, and the next is put behind them.
use Rattle.paper.specs.Listing.{read_listing}
use Rattle.wire.specs.Writing.{Filled}
use Rattle.listing.specs.Listing.{sub_of}
use Rattle.code_text.proofs.Exported.{lines_to}
use Rattle.code_text.proofs.lines.put_lines.Given as goal

abbrev pub invariant-loop-k : goal.invariant-loop-k
invariant-loop-k l = Filled (lines_to (read_listing (sub_of l.sub) l.listing) l.k) l.initial.out l.out
