-- What the program says of an input, by cases: too long, refused, or the lines of its table.
-- Assumes nothing.
use mathlib.Core.Path.{◌≡◌, ap, ◌∙◌}
use Prim.Native.Nat.{ℕ, ◌≤◌, ◌<◌}
use mathlib.Core.List.{List}
use borrow.Author.Tests.{lt-leb, le-leb}
use lib.ListN.{length}
use Rattle.paper.specs.Answer.{Refusal, accepted, refused}
use Rattle.paper.specs.ReadingProgram.{too_long, bad, text_of}
use Rattle.paper.specs.Tally.{tallied}
use Rattle.paper.specs.WrongLoads.{lines_from, loads_for, loads_text}

pub too_long_lem : (s : List ℕ) → 65536 < length s → text_of too_long ≡ loads_text s
unfolding loads_text
too_long_lem s h = rw (lt-leb _ _ h)

-- it is not: the tally's answer decides
by_answer : (s : List ℕ) → length s ≤ 65536 → loads_for (tallied s) ≡ loads_text s
unfolding loads_text
by_answer s h = rw (le-leb _ _ h)

pub counted : (s : List ℕ) {t : List (List ℕ)} → length s ≤ 65536 → accepted t ≡ tallied s → lines_from 1 t ≡ loads_text s
counted s h e = ap loads_for e ∙ by_answer s h

pub not_counted : (s : List ℕ) {r : Refusal} → length s ≤ 65536 → refused r ≡ tallied s → text_of (bad r) ≡ loads_text s
not_counted s h e = ap loads_for e ∙ by_answer s h
