-- `Handed::at` meets its contract: the seven bytes are the record's, and where the mark is 0 two of them are not looked at.
use Rattle.listing.proofs.Writing.{unknown_handed, known_handed}
use Rattle.listing.proofs.handed.Handed.at.Goals as goal

pub returns-then-bytes-at-eq0 : goal.returns-then-bytes-at-eq0
returns-then-bytes-at-eq0 c = rw (c.from_bits.ensures, c.from_bits-status.ensures, c.new-code.ensures) (unknown_handed c.args.self.now.bytes.now _ c.if-bytes-at-eq0.true)

pub returns : goal.returns
returns c = rw (c.from_bits-2.ensures, c.from_bits-status.ensures, c.new-code.ensures) (known_handed c.args.self.now.bytes.now _ c.if-bytes-at-eq0.false)
