-- `chart_text::bars::Bar::put_part` meets its contract: no record has no part; else the form with its four numbers.
use mathlib.Core.Path.{refl}
use borrow.Author.Tests.{eq-eqb, ne_eqb}
use lib.Dec.{lit≤}
use Rattle.paper.specs.Chart.{part}
use Rattle.form.proofs.Grown.{none, put_as}
use Rattle.chart_text.proofs.bars.Bar.put_part.Goals as goal

pub returns-then-count-eq0 : goal.returns-then-count-eq0
unfolding part
returns-then-count-eq0 c = rw (eq-eqb _ _ c.if-count-eq0.true) (put_as none refl (lit≤ tt))

pub returns : goal.returns
unfolding part
returns c =
    rw (ne_eqb _ _ c.if-count-eq0.false)
    (put_as (rw (c.saturating_sub.ensures, c.saturating_sub-2.ensures, c.height-low.ensures, c.height-high.ensures) at c.put_form.ensures) refl (lit≤ tt))
