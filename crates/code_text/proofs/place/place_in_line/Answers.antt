-- `place_in_line` meets its contract: a code is the beginning of a line.
use borrow.Author.Rules.{rules}
use mathlib.Core.Path.{refl}
use Rattle.code_text.proofs.LineRows.{place-one, place_behind}
use Rattle.code_text.proofs.place.place_in_line.Goals as goal

pub returns-then-i-lt8 : goal.returns-then-i-lt8
returns-then-i-lt8 c = rw c.in-OneCode.is (place-one _ (search rules))

pub returns-else-i-lt8 : goal.returns-else-i-lt8
returns-else-i-lt8 c = rw c.in-OneCode.is (place_behind _ (search rules))

pub returns-in-Lines : goal.returns-in-Lines
returns-in-Lines c = rw c.in-Lines.is refl
