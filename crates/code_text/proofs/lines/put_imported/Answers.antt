-- `put_imported` meets its contract: too many lines, or their listing.
use Rattle.paper.specs.CodeText.{lines}
use Rattle.paper.proofs.TextPlaces.{none_right}
use Rattle.paper.proofs.ListingText.{import_many, import_good}
use Rattle.wire.proofs.Writes.{malformed, passed}
use Rattle.code_text.proofs.lines.put_imported.Goals as goal

pub returns-then-n-gt4096 : goal.returns-then-n-gt4096
returns-then-n-gt4096 c = let t = c.args.text.now in malformed (import_many _ t (none_right lines t c.requires) c.if-n-gt4096.true)

pub returns : goal.returns
returns c = let t = c.args.text.now in passed (import_good _ t (none_right lines t c.requires) c.if-n-gt4096.false) c.put_listing.ensures
