-- Document 02, Req 13: what some joined buffers are taken apart to, by computing the definitions; and why routine messages stay out.
-- Assumes nothing.
use mathlib.Core.Path.{◌≡◌, refl, ap}
use Prim.Native.Nat.{ℕ}
use mathlib.Core.Bool.{false}
use mathlib.Core.List.{List, [], ◌∷◌, ◌++◌, map}
use native.Mathlib.Omega.{arith}
use lib.ListN.{length}
use Rattle.paper.specs.Answer.{refusal, Answer, accepted, refused, over, Reader, ◌>>=◌, give, refuse}
use Rattle.paper.specs.Bytes.{of_bytes}
use Rattle.paper.specs.Utf8.{in_range, begins, first_row, char_length, valid_from, valid_up_to, is_utf8}
use Rattle.paper.specs.Kind.{one_of, known}
use Rattle.paper.specs.Field.{part, byte, headed, counted, name, numbers, size_group}
use Rattle.paper.specs.Request.{read_request}
use Rattle.paper.specs.RoutineControl.{start_routine, known_sub, RoutineRequest, RoutineResponse, routine_bytes, whole_rest, read_routine_request, read_routine_response}
use Rattle.paper.specs.Batch.{messages, joined, number_of, batch_numbers}
use Rattle.paper.specs.Joined.{Whole, Joinable, Pieces, pieces, piece_lengths, TakenApart, taken_apart, OneRequest}
use Rattle.paper.specs.Tally.{sum}

-- ---- taken apart
-- DeleteFile a; AddFile a with its sizes in three bytes each, where two would do; ReadDir with an empty name; and one whose sizes are 0 bytes wide
abbrev delete : List ℕ
delete = 0x02 ∷ 0x00 ∷ 0x01 ∷ 0x61 ∷ []

abbrev wide : List ℕ
wide = 0x01 ∷ 0x00 ∷ 0x01 ∷ 0x61 ∷ 0x11 ∷ 0x03 ∷ 0x00 ∷ 0x00 ∷ 0xFF ∷ 0x00 ∷ 0x01 ∷ 0x00 ∷ []

abbrev dir : List ℕ
dir = 0x05 ∷ 0x00 ∷ 0x00 ∷ []

abbrev bad : List ℕ
bad = 0x01 ∷ 0x00 ∷ 0x01 ∷ 0x61 ∷ 0x11 ∷ 0x00 ∷ []

abbrev pub found : List ℕ → Answer (Unit {0}) → Pieces
found ls a = record { lengths = ls; ended = a }

-- a row: how many pieces at most, what was joined, and what it is taken apart to
abbrev pub rows : List (ℕ × List (List ℕ) × Pieces)
rows =
    -- no bytes are no piece, also where there is no place for one
    (4096, [], found [] (accepted tt))
    ∷ (0, [], found [] (accepted tt))
    -- a length is the one that stands there, also where rewriting would make it shorter; the last piece counts
    ∷ (4096, delete ∷ [], found (4 ∷ []) (accepted tt))
    ∷ (4096, delete ∷ wide ∷ [], found (4 ∷ 12 ∷ []) (accepted tt))
    ∷ (4096, wide ∷ dir ∷ delete ∷ dir ∷ [], found (12 ∷ 3 ∷ 4 ∷ 3 ∷ []) (accepted tt))
    -- the piece that is refused ends it: how many were found before is its place
    ∷ (4096, bad ∷ delete ∷ [], found [] (refused (refusal 6 0 0)))
    ∷ (4096, delete ∷ bad ∷ delete ∷ [], found (4 ∷ []) (refused (refusal 6 0 0)))
    ∷ (4096, delete ∷ dir ∷ (0x07 ∷ 0x00 ∷ 0x00 ∷ []) ∷ [], found (4 ∷ 3 ∷ []) (refused (refusal 3 7 0)))
    -- a last piece that is cut, or one byte too many
    ∷ (4096, delete ∷ (0x02 ∷ 0x00 ∷ 0x01 ∷ []) ∷ [], found (4 ∷ []) (refused (refusal 1 3 2)))
    ∷ (4096, delete ∷ dir ∷ (0x02 ∷ []) ∷ [], found (4 ∷ 3 ∷ []) (refused (refusal 1 2 0)))
    -- just as many as there may be; and more, whatever they are
    ∷ (2, delete ∷ dir ∷ [], found (4 ∷ 3 ∷ []) (accepted tt))
    ∷ (1, delete ∷ dir ∷ [], found (4 ∷ []) (refused (refusal 12 0 0)))
    ∷ (1, delete ∷ bad ∷ [], found (4 ∷ []) (refused (refusal 12 0 0)))
    ∷ (1, bad ∷ delete ∷ [], found [] (refused (refusal 6 0 0)))
    ∷ []

pub rows_right : map (λ (r : ℕ × List (List ℕ) × Pieces). pieces r.0 (joined r.1)) rows ≡ map (λ (r : ℕ × List (List ℕ) × Pieces). r.2) rows
unfolding ◌>>=◌ give refuse of_bytes in_range begins first_row char_length valid_from valid_up_to is_utf8 one_of known part byte headed counted name numbers size_group read_request joined pieces
rows_right = refl

-- a piece has a byte, and no more than the longest request
lengths-within : OneRequest 1 × OneRequest 65572 × (OneRequest 0 → ⊥) × (OneRequest 65573 → ⊥)
lengths-within = (omega arith, omega arith, (λ h. omega arith), (λ h. omega arith))

-- ---- the lent list
abbrev into : Answer ℕ → List ℕ → ℕ → TakenApart
into a list n = record { filled = record { answer = a; contents = list }; found = n }

-- filled from its start, what is beyond the count as before; too short for two, untouched; and untouched by a refusal, which comes before that of room
list_left : (taken_apart (delete ++ wide) (7 ∷ 7 ∷ 7 ∷ []) ≡ into (accepted 2) (4 ∷ 12 ∷ 7 ∷ []) 2)
    × (taken_apart (delete ++ wide) (7 ∷ 7 ∷ []) ≡ into (accepted 2) (4 ∷ 12 ∷ []) 2)
    × (taken_apart (delete ++ wide) (7 ∷ []) ≡ into (refused (refusal 7 2 1)) (7 ∷ []) 2)
    × (taken_apart (delete ++ bad) (7 ∷ []) ≡ into (refused (refusal 6 0 0)) (7 ∷ []) 1)
    × (taken_apart (delete ++ bad) [] ≡ into (refused (refusal 6 0 0)) [] 1)
    × (taken_apart [] (7 ∷ []) ≡ into (accepted 0) (7 ∷ []) 0)
unfolding ◌>>=◌ give refuse of_bytes in_range begins first_row char_length valid_from valid_up_to is_utf8 one_of known part byte headed counted name numbers size_group read_request pieces piece_lengths taken_apart over
list_left = (refl, refl, refl, refl, refl, refl)

-- ---- and read in one call
read_back : (messages (delete ++ wide) (4 ∷ 12 ∷ []) ≡ delete ∷ wide ∷ []) × (batch_numbers (delete ++ wide) (4 ∷ 12 ∷ []) ≡ accepted (0 ∷ 0 ∷ []))
unfolding ◌>>=◌ give refuse of_bytes in_range begins first_row char_length valid_from valid_up_to is_utf8 one_of known part byte headed counted name numbers size_group read_request messages number_of sum batch_numbers
read_back = (refl, refl)

-- ---- routine messages stay out
-- their record takes the whole rest: 01 02 03 and 01 02 03 AA are both accepted with nothing left over, and the one begins the other
longer : ◌≡◌ {A = List ℕ} (0xAA ∷ []) [] → ⊥
longer e = let z : ◌≡◌ {A = ℕ} 1 0 = ap length e in omega arith

abbrev request-of : List ℕ → RoutineRequest
request-of r = record { suppress = false; sub_function = start_routine; identifier = 515; «record» = r }

abbrev response-of : List ℕ → RoutineResponse
response-of r = record { sub_function = start_routine; identifier = 515; «record» = r }

abbrev Both : {A : Type 0} → Reader A → Type 0
Both {A} read = Whole A read (1 ∷ 2 ∷ 3 ∷ []) × Whole A read (1 ∷ 2 ∷ 3 ∷ 0xAA ∷ [])

both-requests : Both read_routine_request
unfolding ◌>>=◌ give refuse of_bytes one_of part known_sub routine_bytes whole_rest read_routine_request
both-requests = (
  record { meaning = request-of []; message = record { bytes = omega arith; whole = refl } },
  record { meaning = request-of (0xAA ∷ []); message = record { bytes = omega arith; whole = refl } },
)

both_responses : Both read_routine_response
unfolding ◌>>=◌ give refuse of_bytes one_of part known_sub routine_bytes whole_rest read_routine_response
both_responses = (
  record { meaning = response-of []; message = record { bytes = omega arith; whole = refl } },
  record { meaning = response-of (0xAA ∷ []); message = record { bytes = omega arith; whole = refl } },
)

-- so they are not joinable, however they were rewritten
pub routine_requests_out : {rewrite : Reader (List ℕ)} → Joinable RoutineRequest read_routine_request rewrite → ⊥
routine_requests_out j = longer (j.begins_none both-requests.0 both-requests.1)

pub routine_responses_out : {rewrite : Reader (List ℕ)} → Joinable RoutineResponse read_routine_response rewrite → ⊥
routine_responses_out j = longer (j.begins_none both_responses.0 both_responses.1)
