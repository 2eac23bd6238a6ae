-- Document 01, "Trouble-code fields" and the permitted negative codes: worked examples, by computing the definitions.
-- Assumes nothing.
use mathlib.Core.Path.{◌≡◌, refl}
use Prim.Native.Nat.{ℕ}
use mathlib.Core.Bool.{Bool, true, false}
use mathlib.Core.List.{List, [], ◌∷◌, map}
use Rattle.paper.specs.Answer.{refusal, accepted, refused, ◌leaving◌, ◌>>=◌, give}
use Rattle.paper.specs.Field.{part, byte}
use Rattle.paper.specs.RoutineControl.{file_transfer_negative_codes, routine_negative_codes}
use Rattle.paper.specs.TroubleCode.{trouble_code, wire_size, all_codes, number_of, from_number, read_trouble_code, none, next, next_trouble_code}
use Rattle.paper.specs.TroubleCode.{trouble_code_bytes, one_byte_field, test_failed, test_failed_this_operation_cycle, pending_dtc, confirmed_dtc}
use Rattle.paper.specs.TroubleCode.{test_not_completed_since_last_clear, test_failed_since_last_clear, test_not_completed_this_operation_cycle}
use Rattle.paper.specs.TroubleCode.{warning_indicator_requested, matches, dtc_class, maintenance_only, check_at_next_halt, check_immediately}
use Rattle.paper.specs.TroubleCode.{severity_valid, emissions, safety, legislative, vobd, reserved_group, group_of, sae_j2012_da_format00}
use Rattle.paper.specs.TroubleCode.{iso14229_1, sae_j1939_73, iso11992_4, sae_j2012_da_format04, reserved_format, format_of, reserved_record_number}

-- the number of a code, high byte first, and its three bytes; the largest number and the one above it
numbers : (number_of (trouble_code 1 2 3) ≡ 0x010203) × (trouble_code_bytes (trouble_code 1 2 3) ≡ 1 ∷ 2 ∷ 3 ∷ []) × (from_number 0x010203 ≡ accepted (trouble_code 1 2 3))
    × (from_number 0x00FFFFFF ≡ accepted all_codes) × (from_number 0x01000000 ≡ refused (refusal 5 0x01000000 0))
unfolding from_number
numbers = (refl, refl, refl, refl, refl)

-- what the record holds as constants
constants : (wire_size ≡ 3) × (all_codes ≡ record { high = 0xFF; middle = 0xFF; low = 0xFF })
constants = (refl, refl)

-- the next of a list of codes, and a field of one byte
reading : (next_trouble_code [] ≡ accepted none) × (next_trouble_code (1 ∷ []) ≡ refused (refusal 1 3 1)) × (next_trouble_code (1 ∷ 2 ∷ []) ≡ refused (refusal 1 3 2))
    × (next_trouble_code (1 ∷ 2 ∷ 3 ∷ 4 ∷ []) ≡ accepted (next (trouble_code 1 2 3 leaving (4 ∷ []))))
    × (one_byte_field [] ≡ refused (refusal 1 1 0)) × (one_byte_field (1 ∷ 2 ∷ []) ≡ accepted (1 leaving (2 ∷ [])))
unfolding ◌>>=◌ give part byte read_trouble_code
reading = (refl, refl, refl, refl, refl, refl)

-- the questions in bit order; the three bytes together tell every bit from every other
abbrev asked : List (ℕ → Bool) → List (List Bool)
asked questions = map (λ (b : ℕ). map (λ (q : ℕ → Bool). q b) questions) (0xAA ∷ 0xCC ∷ 0xF0 ∷ [])

abbrev bits_of_three : List (List Bool)
bits_of_three =
    (false ∷ true ∷ false ∷ true ∷ false ∷ true ∷ false ∷ true ∷ [])
    ∷ (false ∷ false ∷ true ∷ true ∷ false ∷ false ∷ true ∷ true ∷ [])
    ∷ (false ∷ false ∷ false ∷ false ∷ true ∷ true ∷ true ∷ true ∷ [])
    ∷ []

status : asked (test_failed ∷ test_failed_this_operation_cycle ∷ pending_dtc ∷ confirmed_dtc ∷ test_not_completed_since_last_clear ∷ test_failed_since_last_clear ∷ test_not_completed_this_operation_cycle ∷ warning_indicator_requested ∷ []) ≡ bits_of_three
status = refl

severity : asked (dtc_class 0 ∷ dtc_class 1 ∷ dtc_class 2 ∷ dtc_class 3 ∷ dtc_class 4 ∷ maintenance_only ∷ check_at_next_halt ∷ check_immediately ∷ []) ≡ bits_of_three
severity = refl

-- a severity is valid by each of bits 0 to 4 alone, and not by the others or none
validity : map severity_valid (0x01 ∷ 0x02 ∷ 0x04 ∷ 0x08 ∷ 0x10 ∷ 0x20 ∷ 0x40 ∷ 0x80 ∷ 0x00 ∷ []) ≡ true ∷ true ∷ true ∷ true ∷ true ∷ false ∷ false ∷ false ∷ false ∷ []
validity = refl

-- a mask of one bit matches a status that has it, each bit in turn; no bit in common, and no bit at all
masks : (map (λ (mask : ℕ). matches mask 0xFF) (0x01 ∷ 0x02 ∷ 0x04 ∷ 0x08 ∷ 0x10 ∷ 0x20 ∷ 0x40 ∷ 0x80 ∷ []) ≡ true ∷ true ∷ true ∷ true ∷ true ∷ true ∷ true ∷ true ∷ [])
    × (matches 0xAA 0x55 ≡ false) × (matches 0x00 0xFF ≡ false)
masks = (refl, refl, refl)

-- each group, and the bytes beside it
groups : map group_of (0x32 ∷ 0x33 ∷ 0x34 ∷ 0xCF ∷ 0xD0 ∷ 0xD1 ∷ 0xDF ∷ 0xE0 ∷ 0xFD ∷ 0xFE ∷ 0xFF ∷ [])
    ≡ reserved_group ∷ emissions ∷ reserved_group ∷ reserved_group ∷ safety ∷ legislative ∷ legislative ∷ reserved_group ∷ reserved_group ∷ vobd ∷ reserved_group ∷ []
groups = refl

-- formats 0x00 to 0x04 are named, else reserved
formats : map format_of (0x00 ∷ 0x01 ∷ 0x02 ∷ 0x03 ∷ 0x04 ∷ 0x05 ∷ 0xFF ∷ [])
    ≡ sae_j2012_da_format00 ∷ iso14229_1 ∷ sae_j1939_73 ∷ iso11992_4 ∷ sae_j2012_da_format04 ∷ reserved_format ∷ reserved_format ∷ []
formats = refl

-- a stored-data record number is reserved when 0
record_numbers : map reserved_record_number (0 ∷ 1 ∷ 255 ∷ []) ≡ true ∷ false ∷ false ∷ []
record_numbers = refl

-- the permitted negative codes, in source order
negative_codes : (file_transfer_negative_codes ≡ 0x13 ∷ 0x22 ∷ 0x24 ∷ 0x31 ∷ 0x33 ∷ 0x34 ∷ 0x70 ∷ []) × (routine_negative_codes ≡ 0x12 ∷ 0x13 ∷ 0x22 ∷ 0x24 ∷ 0x31 ∷ 0x33 ∷ 0x72 ∷ [])
negative_codes = (refl, refl)
