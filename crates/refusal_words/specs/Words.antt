-- What each number that a call answers means, in plain words: docs/REFUSALS.md has the same table, row by row.
use Rattle.std.specs.Prelude.{ℕ, List, [], ◌∷◌, ◌++◌}
use Prim.Native.String.{String}
use Rattle.paper.specs.Answer.{Answer, accepted, refused, out_of_range}
use Rattle.paper.specs.Kind.{one_of}
use Rattle.paper.specs.ReadingProgram.{ascii}

infix 70 ◌means◌
pub data Row : Type 0 where
  ◌means◌ : ℕ → String → Row

abbrev pub number_of : Row → ℕ
number_of (n means words) = n

abbrev pub words_of : Row → List ℕ
words_of (n means words) = ascii words

-- 0 and the refusals of document 01
abbrev pub document01 : List Row
document01 =
    0 means "accepted" ∷
    1 means "too short: a field has fewer bytes than it needs" ∷
    2 means "wrong format: the name is not UTF-8, or something is too long" ∷
    3 means "unknown mode: no file operation has this number" ∷
    4 means "unknown routine sub-function: it is not start, stop or results" ∷
    5 means "no trouble code: the number is above 0x00FFFFFF" ∷
    6 means "bad width: a size is 1 to 16 bytes wide" ∷
    7 means "no room: the room is smaller than what is to be written" ∷
    8 means "unequal sizes: the sizes differ though the file is not packed" ∷
    9 means "bytes left over: the message ends before its bytes do" ∷
    []

-- the refusals of document 02
abbrev pub document02 : List Row
document02 =
    10 means "cut: the last record is cut, or lengths do not add up" ∷
    11 means "out of range: a field is out of range or does not fit, or the index is another listing's" ∷
    12 means "too many: there are more records or messages than are taken" ∷
    13 means "not allowed: this step cannot come here" ∷
    14 means "wrong counter: a block has neither the next counter nor the last one" ∷
    15 means "unknown service: this service byte, or these first bytes, are none that we have" ∷
    16 means "no such code: no record has this code" ∷
    17 means "repeated: a code stands twice in a listing" ∷
    18 means "bad character: a character cannot stand where it does, or the text ends early" ∷
    []

-- the words of the row that was found, else the refusal
abbrev pub worded : Answer Row → Answer (List ℕ)
worded (accepted row) = accepted (words_of row)
worded (refused e) = refused e

-- the words of the row that has the number; where none has it, the number is out of range, which is 11 with 0
unfoldable pub among : List Row → ℕ → Answer (List ℕ)
among rows n = worded (one_of number_of rows (λ _. out_of_range 0) n)

abbrev pub table : List Row
table = document01 ++ document02

-- what a number means, in ASCII
unfoldable pub meaning : ℕ → Answer (List ℕ)
meaning n = among table n
