-- Document 02, Req 01: what the program `wrong_loads` prints, in ASCII. Its words for a refusal and for what is too long are the reading program's.
use Rattle.std.specs.Prelude.{ℕ, suc, ◌*◌, ◌/◌, List, [], ◌∷◌, ◌++◌, length, drop, leb, eqb}
use Rattle.paper.specs.Choice.{pick}
use Rattle.paper.specs.Answer.{Answer, accepted, refused}
use Rattle.paper.specs.ReadingProgram.{ascii, text_of, too_long, bad}
use Rattle.paper.specs.Form.{filled_in}
use Rattle.paper.specs.Tally.{sum, tallied}

-- ---- a month, by its row of the table: ten counts, those of the refusal numbers 0 to 9
-- all of its records
abbrev pub all : List ℕ → ℕ
all row = sum row

-- its refused records: every number but 0
abbrev pub refused_of : List ℕ → ℕ
refused_of row = sum (drop 1 row)

-- 100 × refused divided by all, rounded down
abbrev pub percent : List ℕ → ℕ
percent row = 100 * refused_of row / all row

-- ---- the text
-- month, all, refused and percent of a month that has records; nothing of one that has none
unfoldable pub month_line : (month : ℕ) → (row : List ℕ) → List ℕ
month_line month row = pick (eqb (all row) 0) [] (filled_in (ascii "_ _ _ _\n") (month ∷ all row ∷ refused_of row ∷ percent row ∷ []))

-- the lines of a table whose first row is of this month
unfoldable pub lines_from : ℕ → List (List ℕ) → List ℕ
lines_from month [] = []
lines_from month (row ∷ others) = month_line month row ++ lines_from (suc month) others

-- the lines of the year, or `refused N A B`
abbrev pub loads_for : Answer (List (List ℕ)) → List ℕ
loads_for (accepted table) = lines_from 1 table
loads_for (refused r) = text_of (bad r)

-- above 65,536 bytes it says `too long`; else it counts the records
unfoldable pub loads_text : List ℕ → List ℕ
loads_text s = pick (leb (length s) 65536) (loads_for (tallied s)) (text_of too_long)
