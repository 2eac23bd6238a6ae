-- What is written of a part that is handed over, or its refusal: what the paper's writers of requests and responses say of that part.
use Rattle.std.specs.Prelude.{ℕ, List, [], ◌∷◌}
use Rattle.paper.specs.Answer.{Answer, accepted, ◌then◌}
use Rattle.paper.specs.Bytes.{to_bytes}
use Rattle.paper.specs.Field.{with_count}
use Rattle.paper.specs.Request.{good_name}
use Rattle.paper.specs.Response.{good_block_length}
use Rattle.wire.specs.Writing.{sizes_out}
use Rattle.station.specs.Handed.{halves}

-- the checks of a name, then the name after its length in two bytes
unfoldable pub name_handed : List ℕ → Answer (List ℕ)
name_handed n = good_name n then accepted (with_count 2 n)

-- the check of a block length, then the block length after its count in one byte
unfoldable pub block_length_handed : List ℕ → Answer (List ℕ)
block_length_handed b = good_block_length b then accepted (with_count 1 b)

-- sizes are handed over in halves, and stand at the smallest width that holds them: after it in one byte, as in requests
abbrev pub sizes_handed : (uncompressedHigh uncompressedLow compressedHigh compressedLow : ℕ) → Answer (List ℕ)
sizes_handed xh xl yh yl = accepted (sizes_out 1 (halves xh xl ∷ halves yh yl ∷ []))

-- after it in two bytes, as in responses
abbrev pub file_sizes_handed : (uncompressedHigh uncompressedLow compressedHigh compressedLow : ℕ) → Answer (List ℕ)
file_sizes_handed xh xl yh yl = accepted (sizes_out 2 (halves xh xl ∷ halves yh yl ∷ []))

abbrev pub dir_size_handed : (high low : ℕ) → Answer (List ℕ)
dir_size_handed high low = accepted (sizes_out 2 (halves high low ∷ []))

abbrev pub position_handed : ℕ → Answer (List ℕ)
position_handed p = accepted (to_bytes 8 p)
