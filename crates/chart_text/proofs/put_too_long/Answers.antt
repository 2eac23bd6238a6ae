-- `chart_text::put_too_long` meets its contract: the words between opening and closing.
use mathlib.Core.Path.{refl}
use lib.Dec.{lit≤}
use Rattle.paper.specs.Chart.{too_long_drawn}
use Rattle.form.proofs.Grown.{more, put_as}
use Rattle.chart_text.proofs.put_too_long.Goals as goal

pub returns : goal.returns
unfolding too_long_drawn
returns c = put_as (more c.put_opening-a.ensures (more c.put-b.ensures c.put_closing.ensures)) refl (lit≤ tt)
