-- Where the block length of a whole response stands, and what part of it is handed out.
use Rattle.std.specs.Prelude.{◌≡◌, ℕ, List, length, Result, Ok, Err}
use Rattle.std.specs.Borrow.{Bor}
use Rattle.paper.specs.Answer.{Answer, accepted, refused, Read, ◌leaving◌}
use Rattle.paper.specs.Response.{Response, after_mode, read_response, good_block_length}
use Rattle.wire.specs.Refusals.{row}
use Rattle.wire.specs.declared.refusal.Refusal.{Refusal}
use Rattle.wire.specs.declared.place.Place.{Place}
use Rattle.file_operation.specs.Part.{IsPartIn}
use Rattle.request_file_transfer_response.specs.Reading.{block_start}
use Rattle.request_file_transfer_response.specs.declared.sent_data.SentDataPayload.{SentDataPayload}

-- of what was read: the place of the block length, after the mode and the byte of its count, or the refusal; where the kind has none, the empty place at 0
abbrev pub place_in : Answer (Read Response) → Answer Place
place_in (accepted (m leaving tail)) = accepted (record { start = block_start (after_mode m.kind) 1; len = length m.block })
place_in (refused e) = refused e

-- where the block length of a response stands: of one that is accepted, and of no other
abbrev pub block_length_place : List ℕ → Answer Place
block_length_place s = place_in (read_response s)

-- r is the block length of the response s, that very part of its bytes; of a refused one, and of one that has none, the empty part at its start
abbrev pub IsBlockLengthOf : Bor (List ℕ) → Bor (List ℕ) → Type 0
IsBlockLengthOf s r = IsPartIn s (block_length_place s.now) r

-- the record holds that very slice, which is a good block length; or the refusal is the check's
abbrev pub HoldsGood : Bor (List ℕ) → Result SentDataPayload Refusal → Type 0
HoldsGood block (Ok x) = (x.max_number_of_block_length ≡ block) × (good_block_length block.now ≡ accepted block.now)
HoldsGood block (Err e) = good_block_length block.now ≡ refused (row e)
