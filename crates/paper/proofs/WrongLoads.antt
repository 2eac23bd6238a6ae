-- Document 02, Req 01: what `wrong_loads` prints of some inputs, letter by letter, by computing the definitions.
-- Assumes nothing.
use mathlib.Core.Path.{◌≡◌, refl}
use Prim.Native.Nat.{ℕ}
use Prim.Native.String.{String}
use mathlib.Core.List.{List, [], ◌∷◌, ◌++◌, map}
use lib.ListN.{replicate}
use Rattle.paper.specs.Bytes.{of_bytes}
use Rattle.paper.specs.Utf8.{in_range}
use Rattle.paper.specs.ReadingProgram.{decimal_in, decimal, ascii, text_of}
use Rattle.paper.specs.Form.{filled_in}
use Rattle.paper.specs.Tally.{entries, records, in_ranges, all_good, count, table, tallied, sum}
use Rattle.paper.specs.WrongLoads.{month_line, lines_from, loads_text}

-- a record of this month with this refusal number, from station 7, of a response, for coach 0x01020304
abbrev load : (month number : ℕ) → List ℕ
load month number = month ∷ 0x07 ∷ 0x01 ∷ number ∷ 0x01 ∷ 0x02 ∷ 0x03 ∷ 0x04 ∷ []

-- a row: the input, and the text
abbrev pub rows : List (List ℕ × String)
rows =
    -- document 02's example: January with refusals 0, 0, 6
    (load 1 0 ++ (load 1 0 ++ load 1 6), "1 3 1 33\n")
    -- months in the order of the year, and none that has no record; all good, all refused, and rounded down
    ∷ (load 12 0 ++ (load 3 9 ++ (load 11 1 ++ (load 11 2 ++ load 11 0))), "3 1 1 100\n11 3 2 66\n12 1 0 0\n")
    -- no records print nothing
    ∷ ([], "")
    -- cut
    ∷ (1 ∷ 2 ∷ 0 ∷ 3 ∷ 4 ∷ 5 ∷ 6 ∷ [], "refused 10 0 0\n")
    -- a month, a direction, a refusal number out of range, at the first such record
    ∷ (load 1 0 ++ (load 13 0 ++ load 0 0), "refused 11 1 0\n")
    ∷ (0x01 ∷ 0x07 ∷ 0x02 ∷ 0x00 ∷ 0x01 ∷ 0x02 ∷ 0x03 ∷ 0x04 ∷ [], "refused 11 0 0\n")
    ∷ (load 2 9 ++ (load 2 0 ++ load 2 10), "refused 11 2 0\n")
    -- 65,536 bytes are read, one more is too long, whatever it has
    ∷ (replicate 65536 0, "refused 11 0 0\n")
    ∷ (replicate 65537 0, "too long\n")
    ∷ []

-- of each input the text of its row is printed
pub rows_right : map (λ (r : List ℕ × String). loads_text r.0) rows ≡ map (λ (r : List ℕ × String). ascii r.1) rows
unfolding of_bytes in_range decimal_in decimal text_of filled_in entries records in_ranges all_good count table tallied sum month_line lines_from loads_text
rows_right = refl
