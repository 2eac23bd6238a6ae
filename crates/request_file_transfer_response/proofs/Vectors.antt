-- Worked examples of where the block length of a response stands, by computing the definitions.
-- Assumes nothing.
use mathlib.Core.Path.{◌≡◌, refl}
use mathlib.Core.List.{[], ◌∷◌}
use Rattle.paper.specs.Answer.{refusal, accepted, refused, ◌>>=◌, give, refuse}
use Rattle.paper.specs.Bytes.{of_bytes}
use Rattle.paper.specs.Kind.{one_of, known}
use Rattle.paper.specs.Field.{part, byte, headed, counted}
use Rattle.paper.specs.Response.{read_response}
use Rattle.request_file_transfer_response.specs.BlockLength.{block_length_place}

-- it begins at 2, also an empty one; a DeleteFile response has none; neither has a refused response, though one stands in it
block_length_places : (block_length_place (0x01 ∷ 0x02 ∷ 0x00 ∷ 0x10 ∷ 0x11 ∷ []) ≡ accepted (record { start = 2; len = 2 })) × (block_length_place (0x01 ∷ 0x00 ∷ 0x11 ∷ []) ≡ accepted (record { start = 2; len = 0 }))
    × (block_length_place (0x02 ∷ []) ≡ accepted (record { start = 0; len = 0 }))
    × (block_length_place (0x07 ∷ 0x01 ∷ 0x10 ∷ 0x11 ∷ []) ≡ refused (refusal 3 7 0)) × (block_length_place (0x01 ∷ 0x01 ∷ 0x10 ∷ []) ≡ refused (refusal 1 1 0))
unfolding ◌>>=◌ give refuse of_bytes one_of known part byte headed counted read_response
block_length_places = (refl, refl, refl, refl, refl)
