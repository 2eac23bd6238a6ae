-- Worked examples of what crosses the doors, by computing the definitions: the parts of document 01's bench cases and of its responses.
-- Assumes nothing.
use mathlib.Core.Path.{◌≡◌, refl}
use Prim.Native.Nat.{ℕ, ◌-◌, ◌^◌}
use mathlib.Core.List.{List, [], ◌∷◌, ◌++◌}
use lib.ListN.{length, replicate}
use Rattle.paper.specs.Answer.{refusal, accepted, refused, Reader, ◌>>=◌, give, refuse}
use Rattle.paper.specs.Bytes.{of_bytes, to_bytes}
use Rattle.paper.specs.Utf8.{in_range, begins, first_row, char_length, valid_from, valid_up_to, is_utf8}
use Rattle.paper.specs.Sizes.{fit, first_fit, width}
use Rattle.paper.specs.Field.{part, number, headed, counted, name, block_length, numbers, size_group, with_count, laid, sizes_at}
use Rattle.paper.specs.Request.{good_name}
use Rattle.paper.specs.Response.{good_block_length}
use Rattle.wire.specs.Writing.{sizes_out}
use Rattle.parts.specs.Records.{refused_part, part_record, refused_sizes, sizes_record, refused_position, position_record}
use Rattle.parts.specs.Handed.{name_handed, block_length_handed, sizes_handed, file_sizes_handed, dir_size_handed, position_handed}
use Rattle.parts.specs.declared.records.PartRecord.{PartRecord}
use Rattle.parts.specs.declared.records.SizesRecord.{SizesRecord}

-- ---- read
abbrev name_record : List ℕ → PartRecord
name_record s = part_record 2 (length s) (name s)

-- a name and what follows it; no name; its length cut; its bytes cut; not UTF-8, and up to where it is
names : (name_record (0x00 ∷ 0x01 ∷ 0x61 ∷ 0x5A ∷ []) ≡ record { number = 0; first = 0; second = 0; start = 2; len = 1; tail = 3 })
    × (name_record (0x00 ∷ 0x00 ∷ []) ≡ record { number = 0; first = 0; second = 0; start = 2; len = 0; tail = 2 })
    × (name_record [] ≡ refused_part (refusal 1 2 0)) × (name_record (0x00 ∷ 0x02 ∷ 0x61 ∷ []) ≡ refused_part (refusal 1 4 3))
    × (name_record (0x00 ∷ 0x02 ∷ 0x61 ∷ 0xFF ∷ []) ≡ refused_part (refusal 2 1 0))
unfolding ◌>>=◌ give refuse of_bytes in_range begins first_row char_length valid_from valid_up_to is_utf8 part headed counted name
names = (refl, refl, refl, refl, refl)

abbrev block_record : List ℕ → PartRecord
block_record s = part_record 1 (length s) (block_length s)

block-lengths : (block_record (0x02 ∷ 0x00 ∷ 0x10 ∷ 0x11 ∷ []) ≡ record { number = 0; first = 0; second = 0; start = 1; len = 2; tail = 3 })
    × (block_record (0x02 ∷ 0x00 ∷ []) ≡ refused_part (refusal 1 3 2))
unfolding ◌>>=◌ give of_bytes part headed counted
block-lengths = (refl, refl)

abbrev sizes : Reader (List ℕ) → List ℕ → SizesRecord
sizes group s = sizes_record (length s) (group s)

-- a record of sizes without a refusal
abbrev of : ℕ → ℕ → ℕ → ℕ → ℕ → SizesRecord
of xh xl yh yl t = record {
  number = 0;
  first = 0;
  second = 0;
  uncompressed_high = xh;
  uncompressed_low = xl;
  compressed_high = yh;
  compressed_low = yl;
  tail = t;
}

-- 255 and 256 after their width in one byte and in two, and 2 ^ 64 in nine bytes, in both halves; one size, which stands as the uncompressed
sizes-read : (sizes (size_group 1 2) (0x02 ∷ 0x00 ∷ 0xFF ∷ 0x01 ∷ 0x00 ∷ 0x5A ∷ []) ≡ of 0 255 0 256 5)
    × (sizes (size_group 2 2) (0x00 ∷ 0x02 ∷ 0x00 ∷ 0xFF ∷ 0x01 ∷ 0x00 ∷ []) ≡ of 0 255 0 256 6)
    × (sizes (size_group 1 2) (9 ∷ replicate 8 0 ++ (0x07 ∷ 0x01 ∷ replicate 8 0)) ≡ of 0 7 1 0 19)
    × (sizes (size_group 2 1) (0x00 ∷ 0x01 ∷ 0x00 ∷ []) ≡ of 0 0 0 0 3)
    × (sizes (size_group 2 1) (0x00 ∷ 0x02 ∷ 0x01 ∷ 0x00 ∷ 0x5A ∷ []) ≡ of 0 256 0 0 4)
unfolding ◌>>=◌ give refuse of_bytes part headed numbers size_group
sizes-read = (refl, refl, refl, refl, refl)

-- width 0; width 17, judged once its bytes are there; a width in two bytes that is cut
sizes-refused : (sizes (size_group 1 2) (0x00 ∷ []) ≡ refused_sizes (refusal 6 0 0)) × (sizes (size_group 1 2) (17 ∷ replicate 33 0) ≡ refused_sizes (refusal 1 35 34))
    × (sizes (size_group 1 2) (17 ∷ replicate 34 0) ≡ refused_sizes (refusal 6 17 0)) × (sizes (size_group 2 2) (0x02 ∷ []) ≡ refused_sizes (refusal 1 2 1))
    × (sizes (size_group 2 1) (0x01 ∷ 0x00 ∷ []) ≡ refused_sizes (refusal 1 258 2))
unfolding ◌>>=◌ give refuse of_bytes part headed numbers size_group
sizes-refused = (refl, refl, refl, refl, refl)

positions : (position_record 9 (number 8 (replicate 6 0 ++ (0x01 ∷ 0x00 ∷ 0x5A ∷ []))) ≡ record { number = 0; first = 0; second = 0; position = 256; tail = 8 })
    × (position_record 7 (number 8 (replicate 7 0)) ≡ refused_position (refusal 1 8 7))
unfolding ◌>>=◌ give of_bytes part number
positions = (refl, refl)

-- ---- written
names-written : (name_handed (0x61 ∷ []) ≡ accepted (0x00 ∷ 0x01 ∷ 0x61 ∷ [])) × (name_handed [] ≡ accepted (0x00 ∷ 0x00 ∷ [])) × (name_handed (0x61 ∷ 0xFF ∷ []) ≡ refused (refusal 2 1 0))
unfolding to_bytes in_range begins first_row char_length valid_from valid_up_to is_utf8 with_count good_name name_handed
names-written = (refl, refl, refl)

block-lengths-written : (block_length_handed (0x00 ∷ 0x10 ∷ []) ≡ accepted (0x02 ∷ 0x00 ∷ 0x10 ∷ [])) × (block_length_handed (replicate 256 0) ≡ refused (refusal 2 0 0))
unfolding to_bytes with_count good_block_length block_length_handed
block-lengths-written = (refl, refl)

-- two zeros take a width of 1; 255 and 256 one of 2; 2 ^ 64 one of 9
sizes-written : (sizes_handed 0 0 0 0 ≡ accepted (0x01 ∷ 0x00 ∷ 0x00 ∷ [])) × (sizes_handed 0 255 0 256 ≡ accepted (0x02 ∷ 0x00 ∷ 0xFF ∷ 0x01 ∷ 0x00 ∷ []))
    × (file_sizes_handed 0 255 0 256 ≡ accepted (0x00 ∷ 0x02 ∷ 0x00 ∷ 0xFF ∷ 0x01 ∷ 0x00 ∷ [])) × (dir_size_handed 0 0 ≡ accepted (0x00 ∷ 0x01 ∷ 0x00 ∷ []))
    × (dir_size_handed 1 0 ≡ accepted (0x00 ∷ 9 ∷ 0x01 ∷ replicate 8 0))
unfolding to_bytes fit first_fit width laid sizes_at sizes_out
sizes-written = (refl, refl, refl, refl, refl)

positions_written : (position_handed 256 ≡ accepted (replicate 6 0 ++ (0x01 ∷ 0x00 ∷ []))) × (position_handed (2 ^ 64 - 1) ≡ accepted (replicate 8 0xFF))
unfolding to_bytes
positions_written = (refl, refl)
