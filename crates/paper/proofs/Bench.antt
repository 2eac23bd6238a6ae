-- Document 01, "Bench cases": the twelve rows marked P, in one table under one statement, by computing the definitions.
-- Assumes nothing.
use mathlib.Core.Path.{◌≡◌, refl}
use Prim.Native.Nat.{ℕ}
use mathlib.Core.Bool.{true}
use mathlib.Core.List.{List, [], ◌∷◌}
use Rattle.paper.specs.Answer.{refusal, Answer, accepted, refused, Read, ◌leaving◌, ◌>>=◌, give, refuse}
use Rattle.paper.specs.Bytes.{of_bytes, to_bytes}
use Rattle.paper.specs.Utf8.{in_range, begins, first_row, char_length, valid_from, valid_up_to, is_utf8}
use Rattle.paper.specs.Sizes.{fit, first_fit, width}
use Rattle.paper.specs.Kind.{one_of, add_file, delete_file, read_dir, known}
use Rattle.paper.specs.Field.{part, byte, headed, counted, name, numbers, size_group, with_count, laid, sizes_at}
use Rattle.paper.specs.Rewriting.{rewriting}
use Rattle.paper.specs.Request.{Request, request, read_request, request_at, request_bytes, good_name, write_request, rewrite_request}
use Rattle.paper.specs.Response.{Response, response, read_response}
use Rattle.paper.specs.RoutineControl.{start_routine, known_sub, RoutineRequest, RoutineResponse, routine_bytes, whole_rest, read_routine_request, read_routine_response}

-- a row: the bytes, and the result
pub data Row : Type 0 where
  request-is : List ℕ → Answer (Read Request) → Row
  -- same meaning as the second message, and rewritten to it
  rewritten_to : List ℕ → List ℕ → Row
  response-is : List ℕ → Answer (Read Response) → Row
  routine-request-is : List ℕ → Answer (Read RoutineRequest) → Row
  routine-response-is : List ℕ → Answer (Read RoutineResponse) → Row

abbrev pub Right : Row → Type 0
Right (request-is s answer) = read_request s ≡ answer
Right (rewritten_to s t) = (read_request s ≡ read_request t) × (rewrite_request s ≡ accepted (t leaving []))
Right (response-is s answer) = read_response s ≡ answer
Right (routine-request-is s answer) = read_routine_request s ≡ answer
Right (routine-response-is s answer) = read_routine_response s ≡ answer

abbrev pub AllRight : List Row → Type 0
AllRight [] = Unit {0}
AllRight (row ∷ rows) = Right row × AllRight rows

abbrev pub bench : List Row
bench =
    request-is (0x02 ∷ 0x00 ∷ 0x01 ∷ 0x61 ∷ []) (accepted (request delete_file (0x61 ∷ []) 0 0 0 leaving []))
    ∷ request-is (0x01 ∷ 0x00 ∷ 0x01 ∷ 0x61 ∷ 0x00 ∷ 0x01 ∷ 0x00 ∷ 0x00 ∷ []) (accepted (request add_file (0x61 ∷ []) 0 0 0 leaving []))
    ∷ request-is (0x01 ∷ 0x00 ∷ 0x01 ∷ 0x61 ∷ 0x11 ∷ 0x02 ∷ 0x00 ∷ 0xFF ∷ 0x01 ∷ 0x00 ∷ []) (accepted (request add_file (0x61 ∷ []) 0x11 255 256 leaving []))
    ∷ rewritten_to (0x01 ∷ 0x00 ∷ 0x01 ∷ 0x61 ∷ 0x11 ∷ 0x03 ∷ 0x00 ∷ 0x00 ∷ 0xFF ∷ 0x00 ∷ 0x01 ∷ 0x00 ∷ []) (0x01 ∷ 0x00 ∷ 0x01 ∷ 0x61 ∷ 0x11 ∷ 0x02 ∷ 0x00 ∷ 0xFF ∷ 0x01 ∷ 0x00 ∷ [])
    ∷ request-is (0x01 ∷ 0x00 ∷ 0x01 ∷ 0x61 ∷ 0x00 ∷ 0x00 ∷ []) (refused (refusal 6 0 0))
    ∷ request-is (0x01 ∷ []) (refused (refusal 1 2 0))
    ∷ request-is (0x07 ∷ 0x00 ∷ 0x02 ∷ 0x61 ∷ []) (refused (refusal 1 4 3))
    ∷ request-is (0x07 ∷ 0x00 ∷ 0x01 ∷ 0xFF ∷ []) (refused (refusal 2 0 0))
    ∷ request-is (0x07 ∷ 0x00 ∷ 0x01 ∷ 0x61 ∷ []) (refused (refusal 3 7 0))
    ∷ response-is (0x05 ∷ 0x00 ∷ 0x00 ∷ 0x00 ∷ 0x01 ∷ 0x00 ∷ []) (accepted (response read_dir [] 0 0 0 0 leaving []))
    ∷ routine-request-is (0x81 ∷ 0x02 ∷ 0x03 ∷ 0xAA ∷ []) (accepted (record { suppress = true; sub_function = start_routine; identifier = 0x0203; «record» = 0xAA ∷ [] } leaving []))
    ∷ routine-response-is (0x81 ∷ 0x02 ∷ 0x03 ∷ []) (refused (refusal 4 0x81 0))
    ∷ []

-- every row of the table is right
pub bench_right : AllRight bench
unfolding ◌>>=◌ give refuse of_bytes to_bytes in_range begins first_row char_length valid_from valid_up_to is_utf8 fit first_fit width one_of known part byte headed counted name numbers size_group with_count laid sizes_at rewriting read_request request_at request_bytes good_name write_request rewrite_request read_response known_sub routine_bytes whole_rest read_routine_request read_routine_response
bench_right = (refl, (refl, (refl, ((refl, refl), (refl, (refl, (refl, (refl, (refl, (refl, (refl, (refl, tt))))))))))))
