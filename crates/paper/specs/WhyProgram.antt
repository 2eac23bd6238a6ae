-- Document 02, request 06: the one line that the program `why_refused` prints, in ASCII. `too long` is the reading program's.
use Rattle.std.specs.Prelude.{ℕ, List, ◌++◌, length, leb}
use Prim.Native.String.{String}
use Rattle.paper.specs.Choice.{pick}
use Rattle.paper.specs.Answer.{Refusal}
use Rattle.paper.specs.ReadingProgram.{too_long, decimal, ascii, text_of}
use Rattle.paper.specs.Reason.{Field, mode, name, format_byte, size_group, block_length, position, Fault, no_mode, no_name_length, cut_name, not_utf8, no_such_mode}
use Rattle.paper.specs.Reason.{no_format, no_width, cut_sizes, wrong_width, no_count, cut_block, cut_position, field_of, Check, Verdict, all_pass, stops}
use Rattle.paper.specs.Reason.{first_failed, request_checks, response_checks}

-- what a field is called
abbrev pub called : Field → String
called mode = "mode"
called name = "name"
called format_byte = "format byte"
called size_group = "size group"
called block_length = "block length"
called position = "position"

-- the fixed sentence of each check
abbrev pub sentence : Fault → String
sentence no_mode = "the message is empty"
sentence no_name_length = "the message ends before it says how long the name is"
sentence cut_name = "the message ends inside the name"
sentence not_utf8 = "the name is not UTF-8"
sentence no_such_mode = "no file operation has this number"
sentence no_format = "the message ends before the format byte"
sentence no_width = "the message ends before it says how wide the sizes are"
sentence cut_sizes = "the message ends inside the sizes"
sentence wrong_width = "a size is 1 to 16 bytes wide"
sentence no_count = "the message ends before it says how long the block length is"
sentence cut_block = "the message ends inside the block length"
sentence cut_position = "the message ends inside the position"

-- `refused N A B`, as the other programs say it, with no line feed yet
abbrev pub refused_text : Refusal → List ℕ
refused_text r = ascii "refused " ++ (decimal r.number ++ (ascii " " ++ (decimal r.first ++ (ascii " " ++ decimal r.second))))

-- `: FIELD at OFFSET: SENTENCE` and the line feed
abbrev pub reason_text : Fault → ℕ → List ℕ
reason_text f o = ascii ": " ++ (ascii (called (field_of f)) ++ (ascii " at " ++ (decimal o ++ (ascii ": " ++ (ascii (sentence f) ++ ascii "\n")))))

-- `accepted`, or `refused N A B: FIELD at OFFSET: SENTENCE`, each ended by a line feed
unfoldable pub why_text : Verdict → List ℕ
why_text all_pass = ascii "accepted\n"
why_text (stops f o r) = refused_text r ++ reason_text f o

-- above 131,072 bytes it says `too long`; else it says what the checks of one message say
unfoldable pub why_line : List Check → List ℕ → List ℕ
why_line checks s = pick (leb (length s) 131072) (why_text (first_failed checks s)) (text_of too_long)

-- ---- its one argument
-- the sort of message that the input is taken for, and the word that names it
pub data Sort : Type 0 where
  request response : Sort

abbrev pub word_of : Sort → String
word_of request = "request"
word_of response = "response"

abbrev pub checks_of : Sort → List Check
checks_of request = request_checks
checks_of response = response_checks

-- what it says to standard error where the argument is another one, or there is none or more than one
abbrev pub how_to_use : List ℕ
how_to_use = ascii "usage: why_refused request < MESSAGE, or why_refused response < MESSAGE\n"
