-- `Records::head` meets its contract: there are as many records as the count says.
use mathlib.Core.Path.{refl}
use lib.ListN.{drop}
use Rattle.paper.proofs.Listing.{length_records}
use Rattle.listing.specs.Listing.{sub_of}
use Rattle.listing.proofs.records.Records.head.Goals as goal

pub returns : goal.returns
returns c =
    let r = c.args.self.now in
    rw (c.from_bits.ensures, length_records (sub_of r.sub) r.count (drop 3 r.message.now)) refl
