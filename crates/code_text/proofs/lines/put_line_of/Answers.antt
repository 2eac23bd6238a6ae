-- `put_line_of` meets its contract: the record's line, or nothing.
use borrow.Author.Rules.{rules}
use mathlib.Core.Path.{refl, sym, ap}
use Rattle.paper.specs.Answer.{accepted}
use Rattle.wire.proofs.Over.{filled_none}
use Rattle.wire.proofs.Writes.{writes, passed}
use Rattle.code_text.specs.Lines.{line_shown}
use Rattle.code_text.proofs.lines.put_line_of.Goals as goal

pub returns-in-None : goal.returns-in-None
returns-in-None c = passed (ap (λ r. accepted (line_shown r)) (sym c.in-None.ensures)) (writes 0 refl (search rules) filled_none)

pub returns-in-Some : goal.returns-in-Some
returns-in-Some c = passed (ap (λ r. accepted (line_shown r)) (sym c.in-Some.ensures)) c.put_line.ensures
