-- What the desk's program says of an input, by cases: too long, or the desk's answer.
-- Assumes nothing.
use mathlib.Core.Path.{◌≡◌, ap}
use Prim.Native.Nat.{ℕ, ◌≤◌, ◌<◌}
use mathlib.Core.List.{List}
use borrow.Author.Tests.{lt-leb, le-leb}
use lib.ListN.{length}
use Rattle.paper.specs.Answer.{Answer}
use Rattle.paper.specs.Desk.{desk_check}
use Rattle.paper.specs.ReadingProgram.{too_long, text_of}
use Rattle.paper.specs.DeskProgram.{desk_text, desk_line}

pub too_long_lem : (s : List ℕ) → 131072 < length s → text_of too_long ≡ desk_line s
unfolding desk_line
too_long_lem s h = rw (lt-leb _ _ h)

pub judged : (s : List ℕ) {a : Answer (Unit {0})} → length s ≤ 131072 → a ≡ desk_check s → desk_text a ≡ desk_line s
unfolding desk_line
judged s h e = rw (le-leb _ _ h) (ap desk_text e)
