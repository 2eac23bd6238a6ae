-- What the program draws of an input, by cases: too long, refused, or the picture of its table.
-- Assumes nothing.
use mathlib.Core.Path.{◌≡◌, ap, ◌∙◌}
use Prim.Native.Nat.{ℕ, ◌≤◌, ◌<◌}
use mathlib.Core.List.{List}
use borrow.Author.Tests.{lt-leb, le-leb}
use lib.ListN.{length}
use Rattle.paper.specs.Answer.{Refusal, accepted, refused}
use Rattle.paper.specs.Tally.{tallied}
use Rattle.paper.specs.Chart.{chart, chart_for, too_long_drawn, chart_text}

pub too_long_lem : (s : List ℕ) → 65536 < length s → too_long_drawn ≡ chart_text s
unfolding chart_text
too_long_lem s h = rw (lt-leb _ _ h)

-- it is not: the tally's answer decides
by_answer : (s : List ℕ) → length s ≤ 65536 → chart_for (tallied s) ≡ chart_text s
unfolding chart_text
by_answer s h = rw (le-leb _ _ h)

pub counted : (s : List ℕ) {t : List (List ℕ)} → length s ≤ 65536 → accepted t ≡ tallied s → chart t ≡ chart_text s
unfolding chart_for
counted s h e = ap chart_for e ∙ by_answer s h

pub not_counted : (s : List ℕ) {r : Refusal} → length s ≤ 65536 → refused r ≡ tallied s → chart_for (refused r) ≡ chart_text s
not_counted s h e = ap chart_for e ∙ by_answer s h
