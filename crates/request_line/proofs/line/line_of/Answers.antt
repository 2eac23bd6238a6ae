-- `request_line::line::line_of` meets its contract: too long, or what the reader's answer gives.
use mathlib.Core.Path.{sym, ap, ◌∙◌}
use Rattle.request_line.specs.Line.{good_or_bad}
use Rattle.request_line.proofs.Lines.{too_long_lem, by_answer}
use Rattle.request_line.proofs.line.line_of.Goals as goal

pub returns-then-input-gt4096 : goal.returns-then-input-gt4096
returns-then-input-gt4096 c = too_long_lem _ c.if-input-gt4096.true

pub returns-in-Ok : goal.returns-in-Ok
returns-in-Ok c = sym (ap good_or_bad c.in-Ok.is) ∙ c.request_line.ensures ∙ by_answer _ c.if-input-gt4096.false

pub returns-in-Err : goal.returns-in-Err
returns-in-Err c = sym (ap good_or_bad c.in-Err.is) ∙ c.request_line.ensures ∙ by_answer _ c.if-input-gt4096.false
