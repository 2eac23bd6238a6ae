-- What the code's sorts of text, places and answers say, in the paper's terms.
use Rattle.std.specs.Prelude.{ℕ, ◌+◌, ◌≤◌, ◌<◌, List, [], length, get_or, ltb, Option, Some, None, Result, Ok, Err}
use Rattle.paper.specs.Choice.{pick}
use Rattle.paper.specs.Answer as paper-answer
use Rattle.paper.specs.Answer.{accepted, refused}
use Rattle.paper.specs.TroubleCode.{TroubleCode}
use Rattle.paper.specs.CodeText as paper
use Rattle.paper.specs.CodeText.{one_code, lines, line_places, place_in, FirstBad, NoneBad}
use Rattle.wire.specs.Refusals.{row}
use Rattle.wire.specs.declared.refusal.Refusal.{Refusal}
use Rattle.dtc.specs.Status.{code_of}
use Rattle.dtc.specs.declared.status.DtcRecord.{DtcRecord}
use Rattle.code_text.specs.declared.place.Sort.{Sort}
use Rattle.code_text.specs.declared.place.Sort.TheVariants.{OneCode, Lines}

abbrev pub sort_of : Sort → paper.Sort
sort_of OneCode = one_code
sort_of Lines = lines

-- the place is the first at which something can't stand, or there is none
abbrev pub FoundWrong : paper.Sort → List ℕ → Option ℕ → Type 0
FoundWrong sort t None = NoneBad sort t
FoundWrong sort t (Some p) = FirstBad sort t p

-- ---- read
-- the number that a character stands for in a row, or nothing where it doesn't stand there
abbrev pub value_in : List ℕ → ℕ → Option ℕ
value_in row c = pick (ltb (place_in row c) (length row)) (Some (place_in row c)) None

-- the first n characters of a line do
pub record LineStands (n at : ℕ) (t : List ℕ) : Type 0 where
  pub long : at + n ≤ length t
  pub stand : (j : ℕ) → j < n → place_in (get_or line_places j []) (get_or t (at + j) 0) < length (get_or line_places j [])

-- what reading a code says
abbrev pub code_said : Result DtcRecord Refusal → paper-answer.Answer TroubleCode
code_said (Ok c) = accepted (code_of c)
code_said (Err e) = refused (row e)
