-- What the record that says why a message is refused holds: number, first and second of the refusal, the field's number and the offset where it begins.
use Rattle.std.specs.Prelude.{ℕ}
use Rattle.paper.specs.Reason.{Field, mode, name, format_byte, size_group, block_length, position, field_of, Verdict, all_pass, stops}
use Rattle.archive.specs.declared.why.WhyRecord.{WhyRecord}

-- 0 is no field
abbrev pub field_number : Field → ℕ
field_number mode = 1
field_number name = 2
field_number format_byte = 3
field_number size_group = 4
field_number block_length = 5
field_number position = 6

abbrev pub why_record : Verdict → WhyRecord
why_record all_pass = record { number = 0; first = 0; second = 0; field = 0; offset = 0 }
why_record (stops f o r) = record { number = r.number; first = r.first; second = r.second; field = field_number (field_of f); offset = o }
