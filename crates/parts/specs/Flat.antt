-- The record of what was read, field by field.
use Rattle.std.specs.Prelude.{ℕ}
use Rattle.wire.specs.declared.place.Place.{Place}
use Rattle.wire.specs.declared.size.Size.{Size}
use Rattle.parts.specs.declared.records.PartRecord.{PartRecord}
use Rattle.parts.specs.declared.records.SizesRecord.{SizesRecord}
use Rattle.parts.specs.declared.records.PositionRecord.{PositionRecord}

abbrev pub accepted_part : Place → ℕ → PartRecord
accepted_part place tail = record { number = 0; first = 0; second = 0; start = place.start; len = place.len; tail = tail }

abbrev pub accepted_sizes : (uncompressed compressed : Size) → ℕ → SizesRecord
accepted_sizes uncompressed compressed tail = record {
  number = 0;
  first = 0;
  second = 0;
  uncompressed_high = uncompressed.high;
  uncompressed_low = uncompressed.low;
  compressed_high = compressed.high;
  compressed_low = compressed.low;
  tail = tail;
}

-- the compressed size is 0
abbrev pub accepted_size : Size → ℕ → SizesRecord
accepted_size size tail = accepted_sizes size (record { high = 0; low = 0 }) tail

abbrev pub accepted_position : (position tail : ℕ) → PositionRecord
accepted_position position tail = record { number = 0; first = 0; second = 0; position = position; tail = tail }
