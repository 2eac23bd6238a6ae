-- Document 02, Req 14: what some whole messages are read as and how they are written, and what the program `read_message` prints of them, letter by letter,
-- by computing the definitions.
-- Assumes nothing.
use mathlib.Core.Path.{◌≡◌, refl}
use Prim.Native.Nat.{ℕ}
use Prim.Native.String.{String}
use mathlib.Core.Bool.{true, false}
use mathlib.Core.List.{List, [], ◌∷◌, map}
use lib.ListN.{replicate}
use Rattle.paper.specs.Answer.{refusal, Answer, accepted, refused, Read, ◌leaving◌, ◌>>=◌, give, refuse, over, written}
use Rattle.paper.specs.Bytes.{of_bytes, to_bytes}
use Rattle.paper.specs.Utf8.{in_range, begins, first_row, char_length, valid_from, valid_up_to, is_utf8}
use Rattle.paper.specs.Sizes.{fit, first_fit, width}
use Rattle.paper.specs.Kind.{one_of, add_file, delete_file, read_file, known}
use Rattle.paper.specs.Field.{part, byte, number, headed, counted, name, numbers, size_group, with_count, laid, sizes_at}
use Rattle.paper.specs.Request.{request, read_request, request_at, request_bytes, good_name, write_request}
use Rattle.paper.specs.Response.{response, read_response, response_at, response_bytes, good_block_length, write_response, as_read}
use Rattle.paper.specs.RoutineControl.{start_routine, stop_routine, request_routine_results, known_sub, routine_bytes, whole_rest, read_routine_request, read_routine_response}
use Rattle.paper.specs.RoutineControl.{routine_request_bytes, routine_response_bytes, write_routine_request, write_routine_response}
use Rattle.paper.specs.ReadingProgram.{decimal_in, decimal, ascii, text_of}
use Rattle.paper.specs.Form.{filled_in}
use Rattle.paper.specs.WholeMessage.{known_sort, file_transfer, routine_control, known_service, stands, no_more, read_negative}
use Rattle.paper.specs.WholeMessage.{WholeMessage, a_file_request, a_routine_request, a_file_response, a_routine_response, a_negative_answer, read_message, write_negative, write_message}
use Rattle.paper.specs.MessageProgram.{message_line}

-- a row: the message, and what it is read as
abbrev pub rows : List (List ℕ × Answer (Read WholeMessage))
rows =
    -- each sort, by its service byte; a byte is left over after the two of file transfer, and the rest is the record in the two of routines
    (0x38 ∷ 0x01 ∷ 0x00 ∷ 0x01 ∷ 0x61 ∷ 0x11 ∷ 0x01 ∷ 0x05 ∷ 0x06 ∷ 0x5A ∷ [], accepted (a_file_request (request add_file (0x61 ∷ []) 0x11 5 6) leaving (0x5A ∷ [])))
    ∷ (0x31 ∷ 0x81 ∷ 0x02 ∷ 0x03 ∷ 0xAA ∷ [], accepted (a_routine_request (record { suppress = true; sub_function = start_routine; identifier = 0x0203; «record» = 0xAA ∷ [] }) leaving []))
    ∷ (0x78 ∷ 0x04 ∷ 0x01 ∷ 0x10 ∷ 0x11 ∷ 0x00 ∷ 0x01 ∷ 0x05 ∷ 0x06 ∷ 0x5A ∷ [], accepted (a_file_response (response read_file (0x10 ∷ []) 0x11 5 6 0) leaving (0x5A ∷ [])))
    ∷ (0x71 ∷ 0x03 ∷ 0x02 ∷ 0x03 ∷ 0xAA ∷ [], accepted (a_routine_response (record { sub_function = request_routine_results; identifier = 0x0203; «record» = 0xAA ∷ [] }) leaving []))
    ∷ (0x7F ∷ 0x38 ∷ 0x31 ∷ [], accepted (a_negative_answer (record { service = file_transfer; code = 0x31; listed = true }) leaving []))
    -- a code of one list alone, in both services: 0x12 and 0x72 are 0x31's, 0x34 and 0x70 are 0x38's
    ∷ (0x7F ∷ 0x31 ∷ 0x12 ∷ [], accepted (a_negative_answer (record { service = routine_control; code = 0x12; listed = true }) leaving []))
    ∷ (0x7F ∷ 0x38 ∷ 0x12 ∷ [], accepted (a_negative_answer (record { service = file_transfer; code = 0x12; listed = false }) leaving []))
    ∷ (0x7F ∷ 0x31 ∷ 0x72 ∷ [], accepted (a_negative_answer (record { service = routine_control; code = 0x72; listed = true }) leaving []))
    ∷ (0x7F ∷ 0x38 ∷ 0x72 ∷ [], accepted (a_negative_answer (record { service = file_transfer; code = 0x72; listed = false }) leaving []))
    ∷ (0x7F ∷ 0x31 ∷ 0x34 ∷ [], accepted (a_negative_answer (record { service = routine_control; code = 0x34; listed = false }) leaving []))
    ∷ (0x7F ∷ 0x38 ∷ 0x34 ∷ [], accepted (a_negative_answer (record { service = file_transfer; code = 0x34; listed = true }) leaving []))
    ∷ (0x7F ∷ 0x31 ∷ 0x70 ∷ [], accepted (a_negative_answer (record { service = routine_control; code = 0x70; listed = false }) leaving []))
    ∷ (0x7F ∷ 0x38 ∷ 0x70 ∷ [], accepted (a_negative_answer (record { service = file_transfer; code = 0x70; listed = true }) leaving []))
    -- a code of no list is read all the same
    ∷ (0x7F ∷ 0x38 ∷ 0x00 ∷ [], accepted (a_negative_answer (record { service = file_transfer; code = 0x00; listed = false }) leaving []))
    ∷ (0x7F ∷ 0x31 ∷ 0xFF ∷ [], accepted (a_negative_answer (record { service = routine_control; code = 0xFF; listed = false }) leaving []))
    -- an empty message, and service bytes that we don't have, whatever follows
    ∷ ([], refused (refusal 1 1 0))
    ∷ (0x00 ∷ [], refused (refusal 15 0 0))
    ∷ (0x39 ∷ 0x01 ∷ 0x00 ∷ 0x01 ∷ 0x61 ∷ [], refused (refusal 15 0 0))
    ∷ (0x3F ∷ 0x38 ∷ 0x31 ∷ [], refused (refusal 15 0 0))
    -- a negative answer that is short, from its service byte on; longer, whatever its second byte; and then to a service that we don't have
    ∷ (0x7F ∷ [], refused (refusal 1 3 1))
    ∷ (0x7F ∷ 0x38 ∷ [], refused (refusal 1 3 2))
    ∷ (0x7F ∷ 0x39 ∷ [], refused (refusal 1 3 2))
    ∷ (0x7F ∷ 0x38 ∷ 0x31 ∷ 0x00 ∷ [], refused (refusal 9 1 0))
    ∷ (0x7F ∷ 0x39 ∷ 0x31 ∷ 0x00 ∷ 0x00 ∷ [], refused (refusal 9 2 0))
    ∷ (0x7F ∷ 0x39 ∷ 0x31 ∷ [], refused (refusal 11 0 0))
    ∷ (0x7F ∷ 0x78 ∷ 0x31 ∷ [], refused (refusal 11 0 0))
    -- behind the other service bytes document 01 refuses, and counts from the start of its field
    ∷ (0x38 ∷ [], refused (refusal 1 1 0))
    ∷ (0x38 ∷ 0x07 ∷ 0x00 ∷ 0x02 ∷ 0x61 ∷ [], refused (refusal 1 4 3))
    ∷ (0x38 ∷ 0x07 ∷ 0x00 ∷ 0x00 ∷ [], refused (refusal 3 7 0))
    ∷ (0x38 ∷ 0x02 ∷ 0x00 ∷ 0x02 ∷ 0x61 ∷ 0xFF ∷ [], refused (refusal 2 1 0))
    ∷ (0x78 ∷ 0x07 ∷ [], refused (refusal 3 7 0))
    ∷ (0x31 ∷ 0x89 ∷ 0x00 ∷ [], refused (refusal 1 3 2))
    ∷ (0x31 ∷ 0x89 ∷ 0x00 ∷ 0x00 ∷ [], refused (refusal 4 9 0))
    ∷ (0x71 ∷ 0x83 ∷ 0x00 ∷ 0x00 ∷ [], refused (refusal 4 0x83 0))
    ∷ []

-- each is read as its row says
pub rows_right : map (λ (r : List ℕ × Answer (Read WholeMessage)). read_message r.0) rows ≡ map (λ (r : List ℕ × Answer (Read WholeMessage)). r.1) rows
unfolding ◌>>=◌ give refuse of_bytes in_range begins first_row char_length valid_from valid_up_to is_utf8 one_of known part byte number headed counted name numbers size_group read_request read_response known_sub routine_bytes whole_rest read_routine_request read_routine_response known_sort known_service stands no_more read_negative read_message
rows_right = refl

-- each sort is written with its service byte
written-whole : map write_message
    (a_file_request (request delete_file (0x61 ∷ []) 7 8 9)
    ∷ a_routine_request (record { suppress = false; sub_function = stop_routine; identifier = 0x0203; «record» = 0xAA ∷ [] })
    ∷ a_file_response (response delete_file [] 0 0 0 0)
    ∷ a_routine_response (record { sub_function = request_routine_results; identifier = 0x0203; «record» = [] })
    ∷ a_negative_answer (record { service = routine_control; code = 0x34; listed = false })
    ∷ a_file_request (request delete_file (0x61 ∷ 0xFF ∷ []) 0 0 0)
    ∷ a_file_response (response add_file (replicate 256 0) 0 0 0 0)
    ∷ [])
    ≡ accepted (0x38 ∷ 0x02 ∷ 0x00 ∷ 0x01 ∷ 0x61 ∷ [])
    ∷ accepted (0x31 ∷ 0x02 ∷ 0x02 ∷ 0x03 ∷ 0xAA ∷ [])
    ∷ accepted (0x78 ∷ 0x02 ∷ [])
    ∷ accepted (0x71 ∷ 0x03 ∷ 0x02 ∷ 0x03 ∷ [])
    ∷ accepted (0x7F ∷ 0x31 ∷ 0x34 ∷ [])
    ∷ refused (refusal 2 1 0)
    ∷ refused (refusal 2 0 0)
    ∷ []
unfolding to_bytes in_range begins first_row char_length valid_from valid_up_to is_utf8 with_count request_at request_bytes good_name write_request response_at response_bytes as_read good_block_length write_response routine_request_bytes routine_response_bytes write_routine_request write_routine_response one_of known_service write_negative write_message
written-whole = refl

-- 7 counts the service byte, and comes after the message's own refusals and 11; one byte too little room changes nothing, not even the first one
in-room : (let m = a_file_request (request delete_file (0x61 ∷ []) 7 8 9) in
    (written (write_message m) (1 ∷ 2 ∷ 3 ∷ 4 ∷ 5 ∷ 6 ∷ []) ≡ record { answer = accepted 5; contents = 0x38 ∷ 0x02 ∷ 0x00 ∷ 0x01 ∷ 0x61 ∷ 6 ∷ [] })
    × (written (write_message m) (1 ∷ 2 ∷ 3 ∷ 4 ∷ []) ≡ record { answer = refused (refusal 7 5 4); contents = 1 ∷ 2 ∷ 3 ∷ 4 ∷ [] })
    × (written (write_message m) (1 ∷ []) ≡ record { answer = refused (refusal 7 5 1); contents = 1 ∷ [] })
    × (written (write_message m) [] ≡ record { answer = refused (refusal 7 5 0); contents = [] })
    × (written (write_message (a_file_request (request delete_file (0xFF ∷ []) 0 0 0))) [] ≡ record { answer = refused (refusal 2 0 0); contents = [] })
    × (written (write_negative 0x38 0x31) (1 ∷ 2 ∷ 3 ∷ 4 ∷ []) ≡ record { answer = accepted 3; contents = 0x7F ∷ 0x38 ∷ 0x31 ∷ 4 ∷ [] })
    × (written (write_negative 0x31 0xFF) (1 ∷ 2 ∷ []) ≡ record { answer = refused (refusal 7 3 2); contents = 1 ∷ 2 ∷ [] })
    × (written (write_negative 0x39 0x31) (1 ∷ 2 ∷ []) ≡ record { answer = refused (refusal 11 0 0); contents = 1 ∷ 2 ∷ [] })
    × (written (write_negative 0x78 0x31) (1 ∷ 2 ∷ 3 ∷ []) ≡ record { answer = refused (refusal 11 0 0); contents = 1 ∷ 2 ∷ 3 ∷ [] }))
unfolding over to_bytes in_range begins first_row char_length valid_from valid_up_to is_utf8 with_count request_at request_bytes good_name write_request one_of known_service write_negative write_message
in-room = (refl, refl, refl, refl, refl, refl, refl, refl, refl)

-- a row: the input, and the line
abbrev pub lines : List (List ℕ × String)
lines =
    -- sizes in three bytes where two will do; `normal` counts the service byte
    (0x38 ∷ 0x01 ∷ 0x00 ∷ 0x02 ∷ 0x61 ∷ 0x62 ∷ 0x11 ∷ 0x03 ∷ 0x00 ∷ 0x00 ∷ 0xFF ∷ 0x00 ∷ 0x01 ∷ 0x00 ∷ 0x5A ∷ [], "request kind 1 name 2 format 17 normal 12 left 1\n")
    ∷ (0x38 ∷ 0x02 ∷ 0x00 ∷ 0x01 ∷ 0x61 ∷ [], "request kind 2 name 1 format - normal 5 left 0\n")
    ∷ (0x78 ∷ 0x04 ∷ 0x01 ∷ 0x10 ∷ 0x11 ∷ 0x00 ∷ 0x02 ∷ 0x00 ∷ 0x05 ∷ 0x00 ∷ 0x06 ∷ [], "response kind 4 block 1 format 17 normal 9 left 0\n")
    ∷ (0x78 ∷ 0x02 ∷ 0x5A ∷ 0x5A ∷ [], "response kind 2 block 0 format - normal 2 left 2\n")
    ∷ (0x31 ∷ 0x81 ∷ 0x02 ∷ 0x03 ∷ 0xAA ∷ [], "routine request sub-function 1 suppress 1 identifier 515 record 1\n")
    ∷ (0x31 ∷ 0x02 ∷ 0x02 ∷ 0x03 ∷ [], "routine request sub-function 2 suppress 0 identifier 515 record 0\n")
    ∷ (0x71 ∷ 0x01 ∷ 0x02 ∷ 0x03 ∷ [], "routine response sub-function 1 identifier 515 record 0\n")
    ∷ (0x7F ∷ 0x38 ∷ 0x31 ∷ [], "negative 0x38 0x31 listed\n")
    ∷ (0x7F ∷ 0x31 ∷ 0xAF ∷ [], "negative 0x31 0xAF unlisted\n")
    ∷ (0x7F ∷ 0x31 ∷ 0x09 ∷ [], "negative 0x31 0x09 unlisted\n")
    -- a refusal: its number and what it carries
    ∷ (0x7F ∷ 0x38 ∷ 0x31 ∷ 0x00 ∷ [], "refused 9 1 0\n")
    ∷ (0x39 ∷ [], "refused 15 0 0\n")
    -- no byte, 4,096 bytes and one more
    ∷ ([], "refused 1 1 0\n")
    ∷ (0x78 ∷ 0x02 ∷ replicate 4094 0, "response kind 2 block 0 format - normal 2 left 4094\n")
    ∷ (0x78 ∷ 0x02 ∷ replicate 4095 0, "too long\n")
    ∷ []

-- of each input the line of its row is printed
pub lines-right : map (λ (r : List ℕ × String). message_line r.0) lines ≡ map (λ (r : List ℕ × String). ascii r.1) lines
unfolding ◌>>=◌ give refuse of_bytes to_bytes in_range begins first_row char_length valid_from valid_up_to is_utf8 fit first_fit width one_of known part byte number headed counted name numbers size_group with_count laid sizes_at read_request request_at request_bytes read_response response_at response_bytes known_sub routine_bytes whole_rest read_routine_request read_routine_response known_sort known_service stands no_more read_negative read_message decimal_in decimal text_of filled_in message_line
lines-right = refl
