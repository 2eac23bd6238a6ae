-- `chart_text::bars::Bar::put_month` meets its contract: the name, then that there are no records, or the bar and its figures.
use mathlib.Core.Path.{refl, sym, ◌∙◌}
use borrow.Author.Tests.{eq-eqb, ne_eqb}
use lib.Dec.{lit≤}
use Rattle.paper.specs.Chart.{month_drawn}
use Rattle.form.proofs.Grown.{more, put_as}
use Rattle.chart_text.proofs.bars.Bar.put_month.Goals as goal

pub returns-then-all_of-eq0 : goal.returns-then-all_of-eq0
unfolding month_drawn
returns-then-all_of-eq0 c =
    rw (eq-eqb _ _ (sym c.all_of.ensures.value ∙ c.if-all_of-eq0.true))
    (put_as (more c.put_name-a.ensures c.put_no_records.ensures) refl (lit≤ tt))

pub returns : goal.returns
unfolding month_drawn
returns c =
    let all = c.all_of.ensures.value in
    let some = rw all at c.if-all_of-eq0.false in
    rw (ne_eqb _ _ some)
    (put_as (more c.put_name-a.ensures (more c.put_parts-b.ensures c.put_figures.ensures)) refl (lit≤ tt))
