-- `put_line` meets its contract: the code, and then the space, the status and the line feed in the room behind it.
use borrow.Author.Rules.{rules}
use mathlib.Core.Path.{refl, ap}
use Rattle.paper.specs.Answer.{accepted}
use Rattle.paper.proofs.CodeText.{length_code}
use Rattle.paper.proofs.LineText.{length_line}
use Rattle.wire.proofs.Over.{filled_more, filled_as}
use Rattle.wire.proofs.Writes.{refuses, writes, filled}
use Rattle.code_text.proofs.Texts.{line_put}
use Rattle.code_text.proofs.lines.put_line.Goals as goal

pub returns-then-room-lt12 : goal.returns-then-room-lt12
returns-then-room-lt12 c = refuses 12 (length_line _) (search rules)

pub returns : goal.returns
returns c =
    writes 12 (length_line _) (search rules)
    (filled_as (line_put _ c.bits-status.ensures c.character-high.ensures c.character-low.ensures)
    (filled_more 8 (filled (ap accepted c.characters.ensures) c.put_bytes.ensures) (filled refl c.put_bytes-2.ensures) (length_code _)))
