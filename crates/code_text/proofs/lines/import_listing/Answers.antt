-- `import_listing` meets its contract: the place at which something can't stand, or what the lines make.
use Rattle.paper.proofs.ListingText.{import_bad}
use Rattle.wire.proofs.Writes.{malformed}
use Rattle.code_text.proofs.lines.import_listing.Goals as goal

pub put_imported-requires : goal.put_imported-requires
put_imported-requires c = c.in-None.ensures

pub returns-in-Some : goal.returns-in-Some
returns-in-Some c = malformed (import_bad _ c.args.text.now _ c.in-Some.ensures)
