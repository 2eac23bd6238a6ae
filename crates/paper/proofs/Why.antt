-- Document 02, request 06: at which check some messages stop, and what the program prints of them, letter by letter, by computing the definitions.
-- Assumes nothing.
use mathlib.Core.Path.{◌≡◌, refl}
use Prim.Native.Nat.{ℕ}
use Prim.Native.String.{String}
use mathlib.Core.List.{List, [], ◌∷◌, ◌++◌, map, append_assoc}
use lib.ListN.{replicate}
use Rattle.paper.specs.Answer.{Refusal, too_short, wrong_format, unknown_mode, bad_width}
use Rattle.paper.specs.Bytes.{of_bytes}
use Rattle.paper.specs.Utf8.{in_range, begins, first_row, char_length, valid_from, valid_up_to, is_utf8}
use Rattle.paper.specs.Kind.{one_of, known}
use Rattle.paper.specs.ReadingProgram.{bad, decimal_in, decimal, ascii, text_of}
use Rattle.paper.specs.Reason.{no_mode, no_name_length, cut_name, not_utf8, no_such_mode, no_format, no_width, cut_sizes, wrong_width, no_count, cut_block, cut_position}
use Rattle.paper.specs.Reason.{Verdict, all_pass, stops, first_failed, request_checks, response_checks}
use Rattle.paper.specs.WhyProgram.{refused_text, why_text, why_line, request, response, word_of, checks_of, how_to_use}

-- a row: the message, where it stops, and the program's line of it
pub record Row : Type 0 where
  pub message : List ℕ
  pub verdict : Verdict
  pub line : String

abbrev row : List ℕ → Verdict → String → Row
row s v l = record { message = s; verdict = v; line = l }

abbrev pub requests : List Row
requests =
    -- each check of 01 in turn
    row ([]) (stops no_mode 0 (too_short 1 0)) "refused 1 1 0: mode at 0: the message is empty\n"
    ∷ row (0x01 ∷ []) (stops no_name_length 1 (too_short 2 0)) "refused 1 2 0: name at 1: the message ends before it says how long the name is\n"
    ∷ row (0x01 ∷ 0x00 ∷ []) (stops no_name_length 1 (too_short 2 1)) "refused 1 2 1: name at 1: the message ends before it says how long the name is\n"
    ∷ row (0x07 ∷ 0x00 ∷ 0x02 ∷ 0x61 ∷ []) (stops cut_name 1 (too_short 4 3)) "refused 1 4 3: name at 1: the message ends inside the name\n"
    ∷ row (0x07 ∷ 0x00 ∷ 0x02 ∷ 0x61 ∷ 0xFF ∷ []) (stops not_utf8 1 (wrong_format 1)) "refused 2 1 0: name at 1: the name is not UTF-8\n"
    -- an unknown mode is named as the mode, at offset 0
    ∷ row (0x07 ∷ 0x00 ∷ 0x01 ∷ 0x61 ∷ []) (stops no_such_mode 0 (unknown_mode 7)) "refused 3 7 0: mode at 0: no file operation has this number\n"
    ∷ row (0x01 ∷ 0x00 ∷ 0x01 ∷ 0x61 ∷ []) (stops no_format 4 (too_short 1 0)) "refused 1 1 0: format byte at 4: the message ends before the format byte\n"
    ∷ row (0x04 ∷ 0x00 ∷ 0x00 ∷ []) (stops no_format 3 (too_short 1 0)) "refused 1 1 0: format byte at 3: the message ends before the format byte\n"
    ∷ row (0x01 ∷ 0x00 ∷ 0x01 ∷ 0x61 ∷ 0x00 ∷ []) (stops no_width 5 (too_short 1 0)) "refused 1 1 0: size group at 5: the message ends before it says how wide the sizes are\n"
    ∷ row (0x01 ∷ 0x00 ∷ 0x01 ∷ 0x61 ∷ 0x00 ∷ 0x02 ∷ 0x00 ∷ []) (stops cut_sizes 5 (too_short 5 2)) "refused 1 5 2: size group at 5: the message ends inside the sizes\n"
    ∷ row (0x01 ∷ 0x00 ∷ 0x01 ∷ 0x61 ∷ 0x00 ∷ 0x00 ∷ []) (stops wrong_width 5 (bad_width 0)) "refused 6 0 0: size group at 5: a size is 1 to 16 bytes wide\n"
    ∷ row (0x03 ∷ 0x00 ∷ 0x00 ∷ 0x00 ∷ 0x11 ∷ replicate 34 0x00) (stops wrong_width 4 (bad_width 17)) "refused 6 17 0: size group at 4: a size is 1 to 16 bytes wide\n"
    -- accepted, with bytes left over too
    ∷ row (0x02 ∷ 0x00 ∷ 0x01 ∷ 0x61 ∷ []) all_pass "accepted\n"
    ∷ row (0x01 ∷ 0x00 ∷ 0x01 ∷ 0x61 ∷ 0x11 ∷ 0x02 ∷ 0x00 ∷ 0xFF ∷ 0x01 ∷ 0x00 ∷ 0x5A ∷ []) all_pass "accepted\n"
    -- 131,072 bytes
    ∷ row (replicate 131072 0) (stops no_such_mode 0 (unknown_mode 0)) "refused 3 0 0: mode at 0: no file operation has this number\n"
    ∷ []

abbrev pub responses : List Row
responses =
    row ([]) (stops no_mode 0 (too_short 1 0)) "refused 1 1 0: mode at 0: the message is empty\n"
    -- an unknown mode is refused at once
    ∷ row (0x07 ∷ []) (stops no_such_mode 0 (unknown_mode 7)) "refused 3 7 0: mode at 0: no file operation has this number\n"
    ∷ row (0x01 ∷ []) (stops no_count 1 (too_short 1 0)) "refused 1 1 0: block length at 1: the message ends before it says how long the block length is\n"
    ∷ row (0x01 ∷ 0x02 ∷ 0x10 ∷ []) (stops cut_block 1 (too_short 3 2)) "refused 1 3 2: block length at 1: the message ends inside the block length\n"
    ∷ row (0x01 ∷ 0x02 ∷ 0x10 ∷ 0x00 ∷ []) (stops no_format 4 (too_short 1 0)) "refused 1 1 0: format byte at 4: the message ends before the format byte\n"
    -- a width of two bytes
    ∷ row (0x04 ∷ 0x00 ∷ 0x00 ∷ 0x00 ∷ []) (stops no_width 3 (too_short 2 1)) "refused 1 2 1: size group at 3: the message ends before it says how wide the sizes are\n"
    ∷ row (0x04 ∷ 0x00 ∷ 0x00 ∷ 0x01 ∷ 0x00 ∷ 0x00 ∷ []) (stops cut_sizes 3 (too_short 514 3)) "refused 1 514 3: size group at 3: the message ends inside the sizes\n"
    ∷ row (0x05 ∷ 0x00 ∷ 0x00 ∷ 0x01 ∷ 0x00 ∷ 0x00 ∷ []) (stops cut_sizes 3 (too_short 258 3)) "refused 1 258 3: size group at 3: the message ends inside the sizes\n"
    ∷ row (0x05 ∷ 0x00 ∷ 0x00 ∷ 0x00 ∷ 0x00 ∷ []) (stops wrong_width 3 (bad_width 0)) "refused 6 0 0: size group at 3: a size is 1 to 16 bytes wide\n"
    ∷ row (0x06 ∷ 0x01 ∷ 0x10 ∷ 0x00 ∷ 0x00 ∷ 0x00 ∷ []) (stops cut_position 4 (too_short 8 2)) "refused 1 8 2: position at 4: the message ends inside the position\n"
    ∷ row (0x02 ∷ []) all_pass "accepted\n"
    ∷ row (0x05 ∷ 0x00 ∷ 0x00 ∷ 0x00 ∷ 0x01 ∷ 0x00 ∷ []) all_pass "accepted\n"
    ∷ []

-- each message stops where its row says
pub rows_right : (map (λ (r : Row). first_failed request_checks r.message) requests ≡ map Row.verdict requests)
    × (map (λ (r : Row). first_failed response_checks r.message) responses ≡ map Row.verdict responses)
unfolding first_failed request_checks response_checks of_bytes in_range begins first_row char_length valid_from valid_up_to is_utf8 one_of known
rows_right = (refl, refl)

-- and of each the line of its row is printed
pub lines-right : (map (λ (r : Row). why_line (checks_of request) r.message) requests ≡ map (λ (r : Row). ascii r.line) requests)
    × (map (λ (r : Row). why_line (checks_of response) r.message) responses ≡ map (λ (r : Row). ascii r.line) responses)
unfolding first_failed request_checks response_checks of_bytes in_range begins first_row char_length valid_from valid_up_to is_utf8 one_of known decimal_in decimal text_of why_text why_line
lines-right = (refl, refl)

-- one byte more than 131,072 is too long; what the argument can be, and what is said where it is another word
pub others : (why_line request_checks (replicate 131073 0) ≡ ascii "too long\n") × (word_of request ≡ "request") × (word_of response ≡ "response")
    × (how_to_use ≡ ascii "usage: why_refused request < MESSAGE, or why_refused response < MESSAGE\n")
unfolding first_failed request_checks of_bytes one_of known text_of why_text why_line
others = (refl, refl, refl, refl)

-- what is said of a refusal is what the other programs say of it, but for what follows
pub as_elsewhere : (r : Refusal) → refused_text r ++ ascii "\n" ≡ text_of (bad r)
unfolding text_of
as_elsewhere r = simp append_assoc
