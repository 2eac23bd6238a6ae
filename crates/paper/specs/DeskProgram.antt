-- Document 02, Req 03: the one line that the program `desk` prints, in ASCII. Its words for a refusal and for what is too long are the reading program's.
use Rattle.std.specs.Prelude.{ℕ, List, length, leb}
use Rattle.paper.specs.Choice.{pick}
use Rattle.paper.specs.Answer.{Answer, accepted, refused}
use Rattle.paper.specs.Desk.{desk_check}
use Rattle.paper.specs.ReadingProgram.{too_long, bad, ascii, text_of}

-- `passes`, or `refused N A B`
abbrev pub desk_text : Answer (Unit {0}) → List ℕ
desk_text (accepted passed) = ascii "passes\n"
desk_text (refused r) = text_of (bad r)

-- above 131,072 bytes it says `too long`; else it judges one request
unfoldable pub desk_line : List ℕ → List ℕ
desk_line s = pick (leb (length s) 131072) (desk_text (desk_check s)) (text_of too_long)
