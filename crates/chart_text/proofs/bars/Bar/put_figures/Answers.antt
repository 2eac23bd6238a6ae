-- `chart_text::bars::Bar::put_figures` meets its contract: the form with its six numbers.
use mathlib.Core.Path.{refl}
use lib.Dec.{lit≤}
use Rattle.paper.specs.Chart.{figures}
use Rattle.form.proofs.Grown.{put_as}
use Rattle.chart_text.proofs.bars.Bar.put_figures.Goals as goal

pub returns : goal.returns
unfolding figures
returns c =
    put_as
    (rw (c.percent_of.ensures, c.saturating_sub.ensures, c.height-up.ensures, c.refused_of-refused.ensures.value, c.all_of.ensures.value, c.middle-middle.ensures) at c.put_form.ensures)
    refl (lit≤ tt)
