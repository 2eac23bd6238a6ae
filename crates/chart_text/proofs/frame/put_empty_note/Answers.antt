-- `chart_text::frame::put_empty_note` meets its contract: it stands where the year has no record.
use mathlib.Core.Path.{refl, sym, ◌∙◌}
use borrow.Author.Tests.{eq-eqb, ne_eqb}
use lib.Dec.{lit≤}
use Rattle.paper.specs.Chart.{empty_note}
use Rattle.form.proofs.Grown.{none, put_as}
use Rattle.chart_text.proofs.frame.put_empty_note.Goals as goal

pub returns-then-of_year-ne0 : goal.returns-then-of_year-ne0
unfolding empty_note
returns-then-of_year-ne0 c = let some = rw c.of_year.ensures.0 at c.if-of_year-ne0.true in rw (ne_eqb _ _ some) (put_as none refl (lit≤ tt))

pub returns : goal.returns
unfolding empty_note
returns c = rw (eq-eqb _ _ (sym c.of_year.ensures.0 ∙ c.if-of_year-ne0.false)) (put_as c.put.ensures refl (lit≤ tt))
