-- What each record of a part that was read says, as the flat form of the paper's answer: number, first and second of a refusal, else 0, 0, 0 and the fields. The buffer has n bytes.
use Rattle.std.specs.Prelude.{ℕ, ◌-◌, ◌/◌, ◌%◌, ◌^◌, List, length}
use Rattle.paper.specs.Answer.{Refusal, Answer, accepted, refused, Read, ◌leaving◌}
use Rattle.paper.specs.Field.{first_size, second_size}
use Rattle.parts.specs.declared.records.PartRecord.{PartRecord}
use Rattle.parts.specs.declared.records.SizesRecord.{SizesRecord}
use Rattle.parts.specs.declared.records.PositionRecord.{PositionRecord}

-- ---- a name or a block length, which begins after its count
abbrev pub refused_part : Refusal → PartRecord
refused_part e = record { number = e.number; first = e.first; second = e.second; start = 0; len = 0; tail = 0 }

abbrev pub part_record : (begins n : ℕ) → Answer (Read (List ℕ)) → PartRecord
part_record begins n (accepted (x leaving t)) = record { number = 0; first = 0; second = 0; start = begins; len = length x; tail = n - length t }
part_record begins n (refused e) = refused_part e

-- ---- sizes: where one stands alone, the second is 0
abbrev pub refused_sizes : Refusal → SizesRecord
refused_sizes e = record {
  number = e.number;
  first = e.first;
  second = e.second;
  uncompressed_high = 0;
  uncompressed_low = 0;
  compressed_high = 0;
  compressed_low = 0;
  tail = 0;
}

abbrev pub sizes_record : ℕ → Answer (Read (List ℕ)) → SizesRecord
sizes_record n (accepted (xs leaving t)) = record {
  number = 0;
  first = 0;
  second = 0;
  uncompressed_high = first_size xs / 2 ^ 64;
  uncompressed_low = first_size xs % 2 ^ 64;
  compressed_high = second_size xs / 2 ^ 64;
  compressed_low = second_size xs % 2 ^ 64;
  tail = n - length t;
}
sizes_record n (refused e) = refused_sizes e

-- ---- a position
abbrev pub refused_position : Refusal → PositionRecord
refused_position e = record { number = e.number; first = e.first; second = e.second; position = 0; tail = 0 }

abbrev pub position_record : ℕ → Answer (Read ℕ) → PositionRecord
position_record n (accepted (p leaving t)) = record { number = 0; first = 0; second = 0; position = p; tail = n - length t }
position_record n (refused e) = refused_position e
