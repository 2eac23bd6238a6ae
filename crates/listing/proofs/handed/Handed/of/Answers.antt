-- `Handed::of` meets its contract: 12, then 10, and else these bytes.
use Rattle.paper.proofs.Listing.{handed_many, handed_cut}
use Rattle.listing.proofs.handed.Handed.of.Goals as goal

pub returns-then-count-gt4096 : goal.returns-then-count-gt4096
returns-then-count-gt4096 c = λ f m. handed_many f m _ c.if-count-gt4096.true

pub returns-then-bytes-ne0 : goal.returns-then-bytes-ne0
returns-then-bytes-ne0 c = λ f m. handed_cut f m _ c.if-count-gt4096.false c.if-bytes-ne0.true
