-- Document 02, Req 11: what the program `listing_changes` prints, in ASCII: a line to an entry, its code as the workshop writes it and each status as two hex digits. Its words for what is too long are the reading program's.
use Rattle.std.specs.Prelude.{ℕ, List, [], ◌∷◌, ◌++◌, length, leb}
use Rattle.paper.specs.Choice.{pick, both}
use Rattle.paper.specs.Answer.{Refusal, Answer, accepted, refused}
use Rattle.paper.specs.ReadingProgram.{too_long, ascii, text_of}
use Rattle.paper.specs.Form.{filled_in}
use Rattle.paper.specs.MessageProgram.{hex_byte}
use Rattle.paper.specs.Listing.{Listing}
use Rattle.paper.specs.Changes.{Entry, gone, differs, added, changes, read_for_changes}
use Rattle.paper.specs.CodeText.{code_text}
use Rattle.paper.specs.ListingProgram.{sub_function_said}

-- ---- the line of an entry
-- `gone P0301-11 2F`, `differs P0301-11 2F 08` or `new U0100-00 08`
abbrev pub entry_line : Entry → List ℕ
entry_line (gone c old) = ascii "gone " ++ (code_text c ++ (ascii " " ++ (hex_byte old ++ ascii "\n")))
entry_line (differs c old new) = ascii "differs " ++ (code_text c ++ (ascii " " ++ (hex_byte old ++ (ascii " " ++ (hex_byte new ++ ascii "\n")))))
entry_line (added c new) = ascii "new " ++ (code_text c ++ (ascii " " ++ (hex_byte new ++ ascii "\n")))

unfoldable pub entry_lines : List Entry → List ℕ
entry_lines [] = []
entry_lines (e ∷ es) = entry_line e ++ entry_lines es

-- ---- all that it prints
-- `no changes`, or the lines
abbrev pub changes_text : List Entry → List ℕ
changes_text [] = ascii "no changes\n"
changes_text (e ∷ es) = entry_lines (e ∷ es)

-- `refused first N A B` or `refused second N A B`
abbrev pub refused_first : Refusal → List ℕ
refused_first e = filled_in (ascii "refused first _ _ _\n") (e.number ∷ e.first ∷ e.second ∷ [])

abbrev pub refused_second : Refusal → List ℕ
refused_second e = filled_in (ascii "refused second _ _ _\n") (e.number ∷ e.first ∷ e.second ∷ [])

abbrev pub compared_text : (first second : Answer Listing) → List ℕ
compared_text (refused e) second = refused_first e
compared_text (accepted x) (refused e) = refused_second e
compared_text (accepted x) (accepted y) = changes_text (changes x.records y.records)

-- each listing says its sub-function itself; above 65,536 bytes of either it says `too long`
unfoldable pub changes_printed : (first second : List ℕ) → List ℕ
changes_printed s t =
    pick (both (leb (length s) 65536) (leb (length t) 65536))
    (compared_text (read_for_changes (sub_function_said s) s) (read_for_changes (sub_function_said t) t))
    (text_of too_long)

-- ---- its two arguments
-- what it says to standard error where there are fewer or more, or where one names no file that can be opened; then it prints nothing
abbrev pub how_to_use : List ℕ
how_to_use = ascii "usage: listing_changes OLD NEW, each a file with one listing\n"
