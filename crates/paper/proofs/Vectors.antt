-- Worked examples of what the bench's P table leaves out, by computing the definitions: refusals, sizes, limits of a width, codes, writing.
-- Assumes nothing.
use mathlib.Core.Path.{◌≡◌, refl}
use Prim.Native.Nat.{ℕ, ◌-◌, ◌^◌}
use mathlib.Core.Bool.{true, false}
use mathlib.Core.List.{List, [], ◌∷◌, ◌++◌, map}
use lib.ListN.{replicate}
use Rattle.paper.specs.Answer.{Refusal, refusal, too_short, wrong_format, unknown_mode, unknown_sub_function, no_trouble_code, bad_width, no_room}
use Rattle.paper.specs.Answer.{unequal_sizes, left_over, cut, out_of_range, too_many, not_allowed, wrong_counter, unknown_service, no_such_code, accepted, refused, ◌leaving◌, ◌>>=◌, give, refuse, over, written}
use Rattle.paper.specs.Bytes.{of_bytes, to_bytes}
use Rattle.paper.specs.Utf8.{in_range, begins, first_row, char_length, valid_from, valid_up_to, is_utf8}
use Rattle.paper.specs.Sizes.{fit, first_fit, width, less, equal, greater, compare}
use Rattle.paper.specs.Kind.{one_of, add_file, delete_file, replace_file, read_file, read_dir, resume_file, mode_of, kinds, known}
use Rattle.paper.specs.Field.{part, byte, number, headed, counted, name, numbers, size_group, with_count, laid, sizes_at}
use Rattle.paper.specs.Rewriting.{rewriting, rewritten_into}
use Rattle.paper.specs.Request.{request, read_request, request_at, request_bytes, good_name, write_request, rewrite_request}
use Rattle.paper.specs.Response.{response, read_response, response_at, response_bytes, good_block_length, write_response, as_read}
use Rattle.paper.specs.RoutineControl.{start_routine, stop_routine, request_routine_results, byte_of, sub_functions, known_sub, routine_bytes}
use Rattle.paper.specs.RoutineControl.{whole_rest, read_routine_request, read_routine_response, routine_request_bytes, routine_response_bytes}
use Rattle.paper.specs.Desk.{desk_check}

-- the table of refusals: the number of each, and what it carries
refusals : map {B = ℕ × ℕ × ℕ} (λ (r : Refusal). (r.number, r.first, r.second)) (too_short 4 3 ∷ wrong_format 150 ∷ unknown_mode 7 ∷ unknown_sub_function 9 ∷ no_trouble_code 0x01000000 ∷ bad_width 17 ∷ no_room 4 3 ∷ unequal_sizes ∷ left_over 5 ∷ cut ∷ out_of_range 3 ∷ too_many ∷ not_allowed 4 ∷ wrong_counter 5 ∷ unknown_service 6 ∷ no_such_code ∷ [])
    ≡ (1, 4, 3) ∷ (2, 150, 0) ∷ (3, 7, 0) ∷ (4, 9, 0) ∷ (5, 0x01000000, 0) ∷ (6, 17, 0) ∷ (7, 4, 3) ∷ (8, 0, 0) ∷ (9, 5, 0) ∷ (10, 0, 0) ∷ (11, 3, 0) ∷ (12, 0, 0) ∷ (13, 4, 0) ∷ (14, 5, 0) ∷ (15, 6, 0) ∷ (16, 0, 0) ∷ []
refusals = refl

-- 2^64 - 1 takes 8 bytes, 2^64 takes 9, 2^128 - 1 takes 16, and two zeros take 1
widths : map width (((2 ^ 64 - 1) ∷ 0 ∷ []) ∷ (0 ∷ (2 ^ 64) ∷ []) ∷ ((2 ^ 128 - 1) ∷ []) ∷ (0 ∷ 0 ∷ []) ∷ []) ≡ 8 ∷ 9 ∷ 16 ∷ 1 ∷ []
unfolding width first_fit fit
widths = refl

-- sizes compare by exact value, above 2^64 too
comparisons : (compare (2 ^ 64) (2 ^ 64 - 1) ≡ greater) × (compare 1 (2 ^ 64) ≡ less) × (compare (2 ^ 128 - 1) (2 ^ 128 - 1) ≡ equal)
unfolding compare
comparisons = (refl, refl, refl)

-- width 17: the bytes of the whole group must be there before the width is judged
abbrev wide : ℕ → List ℕ
wide n = 0x01 ∷ 0x00 ∷ 0x01 ∷ 0x61 ∷ 0x00 ∷ 17 ∷ replicate n 0

widths_judged_late : (read_request (wide 33) ≡ refused (refusal 1 35 34)) × (read_request (wide 34) ≡ refused (refusal 6 17 0))
unfolding ◌>>=◌ give refuse of_bytes in_range begins first_row char_length valid_from valid_up_to is_utf8 one_of known part byte headed counted name numbers size_group read_request
widths_judged_late = (refl, refl)

-- each kind of response: block-length bytes are handed on as sent, a width has two bytes, a position eight; what follows is the tail
responses : (read_response (0x01 ∷ 0x02 ∷ 0x00 ∷ 0x10 ∷ 0x11 ∷ 0x5A ∷ []) ≡ accepted (response add_file (0x00 ∷ 0x10 ∷ []) 0x11 0 0 0 leaving (0x5A ∷ [])))
    × (read_response (0x02 ∷ 0x5A ∷ []) ≡ accepted (response delete_file [] 0 0 0 0 leaving (0x5A ∷ [])))
    × (read_response (0x03 ∷ 0x00 ∷ 0x11 ∷ []) ≡ accepted (response replace_file [] 0x11 0 0 0 leaving []))
    × (read_response (0x04 ∷ 0x01 ∷ 0x10 ∷ 0x11 ∷ 0x00 ∷ 0x02 ∷ 0x00 ∷ 0xFF ∷ 0x01 ∷ 0x00 ∷ 0x5A ∷ []) ≡ accepted (response read_file (0x10 ∷ []) 0x11 255 256 0 leaving (0x5A ∷ [])))
    × (read_response (0x05 ∷ 0x00 ∷ 0x11 ∷ 0x00 ∷ 0x02 ∷ 0x01 ∷ 0x00 ∷ []) ≡ accepted (response read_dir [] 0x11 256 0 0 leaving []))
    × (read_response (0x06 ∷ 0x00 ∷ 0x11 ∷ 0x00 ∷ 0x00 ∷ 0x00 ∷ 0x00 ∷ 0x00 ∷ 0x00 ∷ 0x01 ∷ 0x00 ∷ []) ≡ accepted (response resume_file [] 0x11 0 0 256 leaving []))
unfolding ◌>>=◌ give refuse of_bytes one_of known part byte number headed counted numbers size_group read_response
responses = (refl, refl, refl, refl, refl, refl)

-- an unknown mode is refused at once, and "needed" counts both bytes of the width
responses_refused : (read_response (0x07 ∷ []) ≡ refused (refusal 3 7 0)) × (read_response (0x05 ∷ 0x00 ∷ 0x00 ∷ 0x01 ∷ 0x00 ∷ []) ≡ refused (refusal 1 258 2))
unfolding ◌>>=◌ give refuse of_bytes one_of known part byte headed counted numbers size_group read_response
responses_refused = (refl, refl)

-- each mode and each sub-function, in order, and the bytes on both sides of them
modes : (map mode_of kinds ≡ 1 ∷ 2 ∷ 3 ∷ 4 ∷ 5 ∷ 6 ∷ [])
    × (map known (1 ∷ 2 ∷ 3 ∷ 4 ∷ 5 ∷ 6 ∷ []) ≡ accepted add_file ∷ accepted delete_file ∷ accepted replace_file ∷ accepted read_file ∷ accepted read_dir ∷ accepted resume_file ∷ [])
    × (map known (0x00 ∷ 0x07 ∷ 0xFF ∷ []) ≡ refused (refusal 3 0x00 0) ∷ refused (refusal 3 0x07 0) ∷ refused (refusal 3 0xFF 0) ∷ [])
unfolding one_of known
modes = (refl, refl, refl)

sub-functions : (map byte_of sub_functions ≡ 1 ∷ 2 ∷ 3 ∷ [])
    × (map known_sub (1 ∷ 2 ∷ 3 ∷ []) ≡ accepted start_routine ∷ accepted stop_routine ∷ accepted request_routine_results ∷ [])
    × (map known_sub (0x00 ∷ 0x04 ∷ 0xFF ∷ []) ≡ refused (refusal 4 0x00 0) ∷ refused (refusal 4 0x04 0) ∷ refused (refusal 4 0xFF 0) ∷ [])
unfolding one_of known_sub
sub-functions = (refl, refl, refl)

-- routine bytes: presence before the sub-function; a request's refusal carries the low seven bits, a response's the byte
routines : (read_routine_request (0x89 ∷ 0x00 ∷ []) ≡ refused (refusal 1 3 2)) × (read_routine_request (0x89 ∷ 0x00 ∷ 0x00 ∷ []) ≡ refused (refusal 4 9 0))
    × (read_routine_response (0x83 ∷ 0x00 ∷ 0x00 ∷ []) ≡ refused (refusal 4 0x83 0))
unfolding ◌>>=◌ give refuse of_bytes one_of part known_sub routine_bytes whole_rest read_routine_request read_routine_response
routines = (refl, refl, refl)

-- routine messages as they are written
routines_written : (routine_request_bytes (record { suppress = true; sub_function = start_routine; identifier = 0x0203; «record» = 0xAA ∷ [] }) ≡ 0x81 ∷ 0x02 ∷ 0x03 ∷ 0xAA ∷ [])
    × (routine_request_bytes (record { suppress = false; sub_function = stop_routine; identifier = 0x0203; «record» = [] }) ≡ 0x02 ∷ 0x02 ∷ 0x03 ∷ [])
    × (routine_response_bytes (record { sub_function = request_routine_results; identifier = 0x0203; «record» = 0xAA ∷ [] }) ≡ 0x03 ∷ 0x02 ∷ 0x03 ∷ 0xAA ∷ [])
unfolding to_bytes routine_request_bytes routine_response_bytes
routines_written = (refl, refl, refl)

-- writing fills exactly the counted bytes, and just enough room will do; one byte too little room changes nothing; a kind's missing block length is ignored, over-long or not
writing : (let m = request delete_file (0x61 ∷ []) 7 8 9 in
    (written (write_request m) (1 ∷ 2 ∷ 3 ∷ 4 ∷ 5 ∷ []) ≡ record { answer = accepted 4; contents = 0x02 ∷ 0x00 ∷ 0x01 ∷ 0x61 ∷ 5 ∷ [] })
    × (written (write_request m) (1 ∷ 2 ∷ 3 ∷ 4 ∷ []) ≡ record { answer = accepted 4; contents = 0x02 ∷ 0x00 ∷ 0x01 ∷ 0x61 ∷ [] })
    × (written (write_request m) (1 ∷ 2 ∷ 3 ∷ []) ≡ record { answer = refused (refusal 7 4 3); contents = 1 ∷ 2 ∷ 3 ∷ [] })
    × (written (write_request (request delete_file (0xFF ∷ []) 0 0 0)) (1 ∷ []) ≡ record { answer = refused (refusal 2 0 0); contents = 1 ∷ [] })
    × (write_response (response delete_file (replicate 300 0) 0 0 0 0) ≡ accepted (0x02 ∷ []))
    × (write_response (response add_file (replicate 256 0) 0 0 0 0) ≡ refused (refusal 2 0 0)))
unfolding over to_bytes in_range begins first_row char_length valid_from valid_up_to is_utf8 with_count request_at request_bytes good_name write_request response_at response_bytes as_read good_block_length write_response
writing = (refl, refl, refl, refl, refl, refl)

-- where a name goes bad: before a character that is cut, at its end or by another byte; at the first byte; after two letters of three bytes; at the 151st letter
abbrev bad_names : List (List ℕ × ℕ)
bad_names =
    (0x61 ∷ 0xE2 ∷ 0x82 ∷ [], 1)
    ∷ (0x61 ∷ 0xE2 ∷ 0x82 ∷ 0x62 ∷ [], 1)
    ∷ (0xFF ∷ 0x61 ∷ [], 0)
    ∷ (0xC3 ∷ 0xBC ∷ 0x62 ∷ 0x80 ∷ [], 3)
    ∷ (replicate 150 0x61 ++ (0xFC ∷ replicate 49 0x61), 150)
    ∷ []

-- the reader, the desk and the writer say so
bad-names : (map (λ (x : List ℕ × ℕ). read_request (0x02 ∷ with_count 2 x.0)) bad_names ≡ map (λ (x : List ℕ × ℕ). refused (refusal 2 x.1 0)) bad_names)
    × (map (λ (x : List ℕ × ℕ). desk_check (0x02 ∷ with_count 2 x.0)) bad_names ≡ map (λ (x : List ℕ × ℕ). refused (refusal 2 x.1 0)) bad_names)
    × (map (λ (x : List ℕ × ℕ). write_request (request delete_file x.0 0 0 0)) bad_names ≡ map (λ (x : List ℕ × ℕ). refused (refusal 2 x.1 0)) bad_names)
unfolding desk_check ◌>>=◌ give refuse of_bytes to_bytes in_range begins first_row char_length valid_from valid_up_to is_utf8 part headed counted byte name with_count read_request good_name write_request
bad-names = (refl, refl, refl)

-- an over-long name carries 0, and so does one that is not UTF-8 either
over-long-names : map (λ (b : ℕ). write_request (request delete_file (replicate 65536 b) 0 0 0)) (0x61 ∷ 0xFF ∷ []) ≡ replicate 2 (refused (refusal 2 0 0))
unfolding good_name write_request
over-long-names = refl

-- rewriting into a buffer: sizes at width 2, with a byte after them, are written at width 1, and the byte is the tail; too little room, and a message that can't be read, change nothing
into : (let s : List ℕ = 0x01 ∷ 0x00 ∷ 0x00 ∷ 0x11 ∷ 0x02 ∷ 0x00 ∷ 0x01 ∷ 0x00 ∷ 0x02 ∷ 0x5A ∷ [] in
    (rewritten_into (rewrite_request s) (replicate 8 9) ≡ record { answer = accepted (7 leaving (0x5A ∷ [])); contents = 0x01 ∷ 0x00 ∷ 0x00 ∷ 0x11 ∷ 0x01 ∷ 0x01 ∷ 0x02 ∷ 9 ∷ [] })
    × (rewritten_into (rewrite_request s) (replicate 6 9) ≡ record { answer = refused (refusal 7 7 6); contents = replicate 6 9 })
    × (rewritten_into (rewrite_request (0x01 ∷ [])) (replicate 6 9) ≡ record { answer = refused (refusal 1 2 0); contents = replicate 6 9 }))
unfolding ◌>>=◌ give refuse over of_bytes to_bytes in_range begins first_row char_length valid_from valid_up_to is_utf8 fit first_fit width one_of known part byte headed counted name numbers size_group with_count laid sizes_at rewriting read_request request_at request_bytes good_name write_request rewrite_request
into = (refl, refl, refl)
