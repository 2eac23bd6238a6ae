-- `message_line::transfer::request_normal` meets its contract: the answer of the writer about a room that has no byte.
use mathlib.Core.Path.{ap, ◌∙◌}
use Rattle.message_line.specs.Text.{needed_in}
use Rattle.message_line.proofs.transfer.request_normal.Goals as goal

pub returns : goal.returns
returns c = c.needed.ensures ∙ ap needed_in (rw c.part_at.ensures.1 at c.write_request_message.ensures.answer)
