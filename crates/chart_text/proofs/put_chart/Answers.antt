-- `chart_text::put_chart` meets its contract: the pieces of the picture, one after the other.
use mathlib.Core.Path.{refl}
use lib.Dec.{lit≤}
use Rattle.paper.specs.Chart.{chart}
use Rattle.form.proofs.Grown.{more, put_as}
use Rattle.chart_text.proofs.put_chart.Goals as goal

pub returns : goal.returns
unfolding chart
returns c =
    let top = c.of-top.ensures in
    put_as
    (more c.put_opening-a.ensures (more c.put_heading-b.ensures (more c.put_patterns-c.ensures (more (rw top at c.put_scale-d.ensures)
    (more (rw top at c.put_months-e.ensures) (more c.put_axes-f.ensures (more c.put_empty_note-g.ensures (more c.put_legend-h.ensures c.put_closing.ensures))))))))
    refl (lit≤ tt)
