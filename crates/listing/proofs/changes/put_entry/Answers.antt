-- `put_entry` meets its contract: an entry's bytes, or none.
use borrow.Author.Rules.{rules}
use mathlib.Core.Path.{refl, sym, ap, ◌∙◌}
use Rattle.paper.specs.Answer.{accepted}
use Rattle.wire.proofs.Over.{filled_none}
use Rattle.wire.proofs.Writes.{writes, passed}
use Rattle.listing.proofs.Comparing.{one_entry, no_entry}
use Rattle.listing.proofs.changes.put_entry.Goals as goal

pub returns-in-Some : goal.returns-in-Some
returns-in-Some c = rw c.in-Some.is (passed (ap accepted (sym (c.bytes.ensures ∙ one_entry _))) c.put_bytes.ensures)

pub returns-in-None : goal.returns-in-None
returns-in-None c = rw c.in-None.is (passed (ap accepted (sym no_entry)) (writes 0 refl (search rules) filled_none))
