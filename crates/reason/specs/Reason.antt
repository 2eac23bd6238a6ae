-- What a reason of the code says, in the paper's terms.
use Rattle.std.specs.Prelude.{ℕ, Result, Ok, Err}
use Rattle.paper.specs.Reason as paper
use Rattle.paper.specs.Reason.{mode, name, format_byte, size_group, block_length, position, no_mode, no_name_length, cut_name, not_utf8, no_such_mode, no_format}
use Rattle.paper.specs.Reason.{no_width, cut_sizes, wrong_width, no_count, cut_block, cut_position, Verdict, all_pass, stops}
use Rattle.wire.specs.Refusals.{row}
use Rattle.wire.specs.declared.refusal.Refusal.{Refusal}
use Rattle.reason.specs.declared.reason.Field.{Field}
use Rattle.reason.specs.declared.reason.Fault.{Fault}
use Rattle.reason.specs.declared.reason.Reason.{Reason}

abbrev pub field_said : Field → paper.Field
field_said Field.Mode = mode
field_said Field.Name = name
field_said Field.FormatByte = format_byte
field_said Field.SizeGroup = size_group
field_said Field.BlockLength = block_length
field_said Field.Position = position

abbrev pub fault_said : Fault → paper.Fault
fault_said Fault.NoMode = no_mode
fault_said Fault.NoNameLength = no_name_length
fault_said Fault.CutName = cut_name
fault_said Fault.NotUtf8 = not_utf8
fault_said Fault.NoSuchMode = no_such_mode
fault_said Fault.NoFormat = no_format
fault_said Fault.NoWidth = no_width
fault_said Fault.CutSizes = cut_sizes
fault_said Fault.WrongWidth = wrong_width
fault_said Fault.NoCount = no_count
fault_said Fault.CutBlock = cut_block
fault_said Fault.CutPosition = cut_position

abbrev pub why_stops : Fault → ℕ → Refusal → Verdict
why_stops fault offset e = stops (fault_said fault) offset (row e)

-- no reason, or the reason
abbrev pub Why : Type 0
Why = Result (Unit {0}) Reason

abbrev pub why_said : Why → Verdict
why_said (Ok none) = all_pass
why_said (Err x) = why_stops x.fault x.offset x.refusal

abbrev pub reason_of : Fault → ℕ → Refusal → Reason
reason_of fault offset e = record { refusal = e; offset = offset; fault = fault }
