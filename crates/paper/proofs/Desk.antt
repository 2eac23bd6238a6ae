-- Document 02, Req 03: what the desk answers to some requests, and what its program prints, letter by letter, by computing the definitions.
-- Assumes nothing.
use mathlib.Core.Path.{◌≡◌, refl}
use Prim.Native.Nat.{ℕ, ◌-◌, ◌^◌}
use Prim.Native.String.{String}
use mathlib.Core.List.{List, [], ◌∷◌, ◌++◌, map}
use lib.ListN.{replicate}
use Rattle.paper.specs.Answer.{refusal, Answer, accepted, refused, ◌>>=◌, give, refuse}
use Rattle.paper.specs.Bytes.{of_bytes, to_bytes}
use Rattle.paper.specs.Utf8.{in_range, begins, first_row, char_length, valid_from, valid_up_to, is_utf8}
use Rattle.paper.specs.Kind.{one_of, known}
use Rattle.paper.specs.Field.{part, byte, headed, counted, name, numbers, size_group}
use Rattle.paper.specs.Request.{read_request}
use Rattle.paper.specs.Desk.{desk_check}
use Rattle.paper.specs.ReadingProgram.{decimal_in, decimal, ascii, text_of}
use Rattle.paper.specs.DeskProgram.{desk_line}

-- a request of this mode with the name `a`, a format byte and sizes in 16 bytes each; t follows it
abbrev sized : (mode format uncompressed compressed : ℕ) → List ℕ → List ℕ
sized mode format x y t = mode ∷ 0x00 ∷ 0x01 ∷ 0x61 ∷ format ∷ 16 ∷ (to_bytes 16 x ++ (to_bytes 16 y ++ t))

-- a row: the message, and the answer
abbrev pub rows : List (List ℕ × Answer (Unit {0}))
rows =
    -- under format 0x00 equal sizes pass, up to the largest
    (sized 0x01 0x00 0 0 [], accepted tt)
    ∷ (sized 0x03 0x00 7 7 [], accepted tt)
    ∷ (sized 0x06 0x00 (2 ^ 128 - 1) (2 ^ 128 - 1) [], accepted tt)
    -- and unequal ones do not, for each of the three kinds, whichever is larger
    ∷ (sized 0x01 0x00 1 2 [], refused (refusal 8 0 0))
    ∷ (sized 0x03 0x00 1 2 [], refused (refusal 8 0 0))
    ∷ (sized 0x06 0x00 1 2 [], refused (refusal 8 0 0))
    ∷ (sized 0x01 0x00 2 1 [], refused (refusal 8 0 0))
    -- by exact value: equal in the low half, and one apart across the halves
    ∷ (sized 0x01 0x00 0 (2 ^ 64) [], refused (refusal 8 0 0))
    ∷ (sized 0x01 0x00 (2 ^ 64) 0 [], refused (refusal 8 0 0))
    ∷ (sized 0x01 0x00 (2 ^ 64) (2 ^ 64 - 1) [], refused (refusal 8 0 0))
    -- with any other format byte every pair passes, also where only one half of the byte is set, or one bit
    ∷ (sized 0x01 0x01 1 2 [], accepted tt)
    ∷ (sized 0x03 0x0F 2 1 [], accepted tt)
    ∷ (sized 0x06 0xF0 0 (2 ^ 64) [], accepted tt)
    ∷ (sized 0x01 0x80 1 2 [], accepted tt)
    -- other kinds pass: DeleteFile, ReadFile with either format, ReadDir
    ∷ (0x02 ∷ 0x00 ∷ 0x00 ∷ [], accepted tt)
    ∷ (0x04 ∷ 0x00 ∷ 0x00 ∷ 0x00 ∷ [], accepted tt)
    ∷ (0x04 ∷ 0x00 ∷ 0x00 ∷ 0x11 ∷ [], accepted tt)
    ∷ (0x05 ∷ 0x00 ∷ 0x00 ∷ [], accepted tt)
    -- the reader's refusals come first, then bytes left over, and only then unequal sizes
    ∷ ([], refused (refusal 1 1 0))
    ∷ (0x01 ∷ 0x00 ∷ 0x01 ∷ 0x61 ∷ 0x00 ∷ 0x00 ∷ 0x5A ∷ [], refused (refusal 6 0 0))
    ∷ (sized 0x01 0x00 1 2 (0x5A ∷ 0x5A ∷ []), refused (refusal 9 2 0))
    ∷ (sized 0x01 0x11 1 2 (0x5A ∷ []), refused (refusal 9 1 0))
    ∷ []

-- to each message the answer of its row is given
pub rows_right : map (λ (r : List ℕ × Answer (Unit {0})). desk_check r.0) rows ≡ map (λ (r : List ℕ × Answer (Unit {0})). r.1) rows
unfolding desk_check ◌>>=◌ give refuse of_bytes to_bytes in_range begins first_row char_length valid_from valid_up_to is_utf8 one_of known part byte headed counted name numbers size_group read_request
rows_right = refl

-- a row: the input, and the line
abbrev pub lines : List (List ℕ × String)
lines =
    -- a packed file may have grown; one that is not packed may not, nor have anything after it
    (0x01 ∷ 0x00 ∷ 0x01 ∷ 0x61 ∷ 0x11 ∷ 0x02 ∷ 0x00 ∷ 0xFF ∷ 0x01 ∷ 0x00 ∷ [], "passes\n")
    ∷ (0x01 ∷ 0x00 ∷ 0x01 ∷ 0x61 ∷ 0x00 ∷ 0x02 ∷ 0x00 ∷ 0xFF ∷ 0x01 ∷ 0x00 ∷ [], "refused 8 0 0\n")
    ∷ (0x01 ∷ 0x00 ∷ 0x01 ∷ 0x61 ∷ 0x00 ∷ 0x02 ∷ 0x00 ∷ 0xFF ∷ 0x01 ∷ 0x00 ∷ 0x5A ∷ [], "refused 9 1 0\n")
    -- cut
    ∷ (0x01 ∷ 0x00 ∷ 0x01 ∷ 0x61 ∷ 0x00 ∷ 0x02 ∷ 0x00 ∷ 0xFF ∷ 0x01 ∷ [], "refused 1 5 4\n")
    -- no byte, 131,072 bytes and one more
    ∷ ([], "refused 1 1 0\n")
    ∷ (replicate 131072 0, "refused 3 0 0\n")
    ∷ (replicate 131073 0, "too long\n")
    ∷ []

-- of each input the line of its row is printed
pub lines-right : map (λ (r : List ℕ × String). desk_line r.0) lines ≡ map (λ (r : List ℕ × String). ascii r.1) lines
unfolding desk_check ◌>>=◌ give refuse of_bytes in_range begins first_row char_length valid_from valid_up_to is_utf8 one_of known part byte headed counted name numbers size_group read_request decimal_in decimal text_of desk_line
lines-right = refl
