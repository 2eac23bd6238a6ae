-- `put_listing` meets its contract: the head, and the records in the room behind it.
use borrow.Author.Rules.{rules}
use mathlib.Core.Path.{refl}
use Rattle.wire.proofs.Over.{filled_more, filled_as}
use Rattle.wire.proofs.Writes.{refuses, writes, filled}
use Rattle.code_text.proofs.Imported.{with-head, length_listing}
use Rattle.code_text.proofs.lines.put_listing.Goals as goal

pub returns-then-room-needed : goal.returns-then-room-needed
returns-then-room-needed c = let a = c.args in refuses _ (length_listing a.text.now a.mask.bits a.n) (search rules)

pub returns : goal.returns
returns c =
    let a = c.args in
    writes _ (length_listing a.text.now a.mask.bits a.n) (search rules)
    (filled_as (with-head a.text.now _ a.n) (filled_more 3 (filled refl c.put_head.ensures) (filled refl c.put_records.ensures) refl))
