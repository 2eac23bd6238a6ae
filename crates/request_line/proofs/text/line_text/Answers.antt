-- `request_line::text::line_text` meets its contract: the text of the line that the input has.
use Rattle.request_line.proofs.text.line_text.Goals as goal

pub returns : goal.returns
returns c = rw c.line_of.ensures at c.put_text.ensures
