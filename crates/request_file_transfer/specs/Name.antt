-- What the answer about a name says of the message.
use Rattle.std.specs.Prelude.{◌≡◌, ℕ, List, length, Result, Ok, Err}
use Rattle.std.specs.Borrow.{Bor}
use Rattle.paper.specs.Answer.{Answer, accepted, refused, Read, ◌leaving◌}
use Rattle.paper.specs.Field.{name}
use Rattle.paper.specs.Request.{Request, read_request, good_name}
use Rattle.wire.specs.Refusals.{row}
use Rattle.wire.specs.Reading.{Seen, Right}
use Rattle.wire.specs.Place.{bytes_at, CountedPlace}
use Rattle.wire.specs.declared.place.Place.{Place}
use Rattle.wire.specs.declared.refusal.Refusal.{Refusal}
use Rattle.file_operation.specs.Part.{IsPartIn}
use Rattle.request_file_transfer.specs.declared.name_payload.NamePayload.{NamePayload}

-- the place begins right after the two bytes of its length
abbrev pub NameRight : List ℕ → ℕ → Seen Place → Type 0
NameRight s at r = Right Place (List ℕ) (bytes_at s) name (CountedPlace 2 s at) s at r

-- of what was read: the place of the name, after the mode and the two bytes of its length, or the refusal
abbrev pub place_in : Answer (Read Request) → Answer Place
place_in (accepted (m leaving tail)) = accepted (record { start = 3; len = length m.name })
place_in (refused e) = refused e

-- where the name of a request stands: of one that is accepted, and of no other
abbrev pub name_place : List ℕ → Answer Place
name_place s = place_in (read_request s)

-- r is the name of the request s, that very part of its bytes; of a refused one the empty part at its start
abbrev pub IsNameOf : Bor (List ℕ) → Bor (List ℕ) → Type 0
IsNameOf s r = IsPartIn s (name_place s.now) r

-- the record holds that very slice, which is a good name; or the refusal is the checks'
abbrev pub HoldsGood : Bor (List ℕ) → Result NamePayload Refusal → Type 0
HoldsGood name (Ok x) = (x.file_path_and_name ≡ name) × (good_name name.now ≡ accepted name.now)
HoldsGood name (Err e) = good_name name.now ≡ refused (row e)
