-- Document 01, "The reading program": what it prints of some inputs, letter by letter, by computing the definitions.
-- Assumes nothing.
use mathlib.Core.Path.{◌≡◌, refl}
use Prim.Native.Nat.{ℕ}
use Prim.Native.String.{String}
use mathlib.Core.List.{List, [], ◌∷◌, map}
use lib.ListN.{replicate}
use Rattle.paper.specs.Answer.{◌>>=◌, give, refuse}
use Rattle.paper.specs.Bytes.{of_bytes, to_bytes}
use Rattle.paper.specs.Utf8.{in_range, begins, first_row, char_length, valid_from, valid_up_to, is_utf8}
use Rattle.paper.specs.Sizes.{fit, first_fit, width}
use Rattle.paper.specs.Kind.{one_of, known}
use Rattle.paper.specs.Field.{part, byte, headed, counted, name, numbers, size_group, with_count, laid, sizes_at}
use Rattle.paper.specs.Request.{read_request, request_at, request_bytes}
use Rattle.paper.specs.ReadingProgram.{line_of, decimal_in, decimal, ascii, text_of}

-- ASCII: space, dash, first and last digit, first and last letter, line feed
letters : ascii " -09az\n" ≡ 0x20 ∷ 0x2D ∷ 0x30 ∷ 0x39 ∷ 0x61 ∷ 0x7A ∷ 0x0A ∷ []
letters = refl

-- numbers on both sides of a digit more, and the length of the longest request
decimals : map decimal (0 ∷ 9 ∷ 10 ∷ 99 ∷ 100 ∷ 65572 ∷ []) ≡ map ascii ("0" ∷ "9" ∷ "10" ∷ "99" ∷ "100" ∷ "65572" ∷ [])
unfolding decimal decimal_in
decimals = refl

-- a row: the input, and the line
abbrev pub lines : List (List ℕ × String)
lines =
    -- the eleven bytes of document 01
    (0x01 ∷ 0x00 ∷ 0x01 ∷ 0x61 ∷ 0x11 ∷ 0x02 ∷ 0x00 ∷ 0xFF ∷ 0x01 ∷ 0x00 ∷ 0x5A ∷ [], "accepted kind 1 name 1 format 17 normal 10 left 1\n")
    -- ResumeFile, with a wider width than it needs
    ∷ (0x06 ∷ 0x00 ∷ 0x02 ∷ 0x61 ∷ 0x62 ∷ 0x00 ∷ 0x02 ∷ 0x00 ∷ 0x05 ∷ 0x00 ∷ 0x04 ∷ 0x5A ∷ 0x5A ∷ 0x5A ∷ [], "accepted kind 6 name 2 format 0 normal 9 left 3\n")
    -- ReadFile has a format byte alone, DeleteFile and ReadDir have none
    ∷ (0x04 ∷ 0x00 ∷ 0x01 ∷ 0x61 ∷ 0xFF ∷ [], "accepted kind 4 name 1 format 255 normal 5 left 0\n")
    ∷ (0x02 ∷ 0x00 ∷ 0x01 ∷ 0x61 ∷ [], "accepted kind 2 name 1 format - normal 4 left 0\n")
    ∷ (0x05 ∷ 0x00 ∷ 0x00 ∷ 0x11 ∷ [], "accepted kind 5 name 0 format - normal 3 left 1\n")
    -- a refusal: its number and what it carries
    ∷ (0x01 ∷ 0x00 ∷ 0x01 ∷ 0x61 ∷ 0x00 ∷ 0x00 ∷ [], "refused 6 0 0\n")
    ∷ (0x07 ∷ 0x00 ∷ 0x02 ∷ 0x61 ∷ [], "refused 1 4 3\n")
    ∷ (0x02 ∷ 0x00 ∷ 0x03 ∷ 0x61 ∷ 0xFF ∷ 0x62 ∷ [], "refused 2 1 0\n")
    -- no byte, 4,096 bytes and one more
    ∷ ([], "refused 1 1 0\n")
    ∷ (replicate 4096 0, "refused 3 0 0\n")
    ∷ (replicate 4097 0, "too long\n")
    ∷ []

-- of each input the line of its row is printed
pub lines-right : map (λ (r : List ℕ × String). text_of (line_of r.0)) lines ≡ map (λ (r : List ℕ × String). ascii r.1) lines
unfolding ◌>>=◌ give refuse of_bytes to_bytes in_range begins first_row char_length valid_from valid_up_to is_utf8 fit first_fit width one_of known part byte headed counted name numbers size_group with_count laid sizes_at read_request request_at request_bytes line_of decimal_in decimal text_of
lines-right = refl
