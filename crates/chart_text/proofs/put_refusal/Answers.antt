-- `chart_text::put_refusal` meets its contract: the words, with the number and the values, between opening and closing.
use mathlib.Core.Path.{refl}
use lib.Dec.{lit≤}
use Rattle.paper.specs.Chart.{chart_for}
use Rattle.form.proofs.Grown.{more, put_as}
use Rattle.chart_text.proofs.put_refusal.Goals as goal

pub returns : goal.returns
unfolding chart_for
returns c =
    let said = rw (c.number.ensures, c.first.ensures, c.second.ensures) at c.put_form-b.ensures in
    put_as (more c.put_opening-a.ensures (more said c.put_closing.ensures)) refl (lit≤ tt)
