-- What the code's line says, in the paper's terms.
use Rattle.std.specs.Prelude.{ℕ, Option, Some, None, Result, Ok, Err}
use Rattle.paper.specs.ReadingProgram as paper
use Rattle.paper.specs.ReadingProgram.{dash, shown, too_long, good, bad}
use Rattle.wire.specs.Refusals.{row}
use Rattle.wire.specs.declared.refusal.Refusal.{Refusal}
use Rattle.request_line.specs.declared.line.Accepted.{Accepted}
use Rattle.request_line.specs.declared.line.Line.{Line}

abbrev pub shown_of : Option ℕ → paper.Shown
shown_of None = dash
shown_of (Some b) = shown b

-- the line of a request that was read, or of its refusal
abbrev pub good_said : Accepted → paper.Line
good_said a = good a.kind a.name (shown_of a.format) a.normal a.left

abbrev pub good_or_bad : Result Accepted Refusal → paper.Line
good_or_bad (Ok a) = good_said a
good_or_bad (Err e) = bad (row e)

abbrev pub line_said : Line → paper.Line
line_said Line.TooLong = too_long
line_said (Line.Accepted a) = good_said a
line_said (Line.Refused e) = bad (row e)
