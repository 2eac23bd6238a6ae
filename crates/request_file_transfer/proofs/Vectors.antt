-- Worked examples of what the name record is made of, by computing the definitions.
-- Assumes nothing.
use mathlib.Core.Path.{◌≡◌, refl}
use mathlib.Core.List.{[], ◌∷◌}
use Rattle.paper.specs.Answer.{refusal, accepted, refused, ◌>>=◌, give, refuse}
use Rattle.paper.specs.Bytes.{of_bytes}
use Rattle.paper.specs.Utf8.{in_range, begins, first_row, char_length, valid_from, valid_up_to, is_utf8}
use Rattle.paper.specs.Kind.{one_of, known}
use Rattle.paper.specs.Field.{part, byte, headed, counted, name}
use Rattle.paper.specs.Request.{read_request, good_name}
use Rattle.file_operation.specs.Part.{or_none}
use Rattle.request_file_transfer.specs.Name.{name_place}

-- the name of a request begins at 3, also an empty one; a refused request has none, though a good name stands in it
name_places : (name_place (0x02 ∷ 0x00 ∷ 0x01 ∷ 0x61 ∷ []) ≡ accepted (record { start = 3; len = 1 })) × (name_place (0x02 ∷ 0x00 ∷ 0x00 ∷ []) ≡ accepted (record { start = 3; len = 0 }))
    × (name_place (0x07 ∷ 0x00 ∷ 0x01 ∷ 0x61 ∷ []) ≡ refused (refusal 3 7 0)) × (name_place (0x01 ∷ 0x00 ∷ 0x01 ∷ 0x61 ∷ []) ≡ refused (refusal 1 1 0))
unfolding ◌>>=◌ give refuse of_bytes in_range begins first_row char_length valid_from valid_up_to is_utf8 one_of known part byte headed counted name read_request
name_places = (refl, refl, refl, refl)

-- of bytes that are no name nothing is kept
kept-names : (or_none (good_name (0x61 ∷ [])) ≡ 0x61 ∷ []) × (or_none (good_name (0x61 ∷ 0xFF ∷ [])) ≡ [])
unfolding in_range begins first_row char_length valid_from valid_up_to is_utf8 good_name
kept-names = (refl, refl)
