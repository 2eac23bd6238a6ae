-- `chart_text::bars::Bar::put_no_records` meets its contract: the form with its number.
use mathlib.Core.Path.{refl}
use lib.Dec.{lit≤}
use Rattle.paper.specs.Chart.{no_records}
use Rattle.form.proofs.Grown.{put_as}
use Rattle.chart_text.proofs.bars.Bar.put_no_records.Goals as goal

pub returns : goal.returns
unfolding no_records
returns c = put_as (rw c.middle.ensures at c.put_form.ensures) refl (lit≤ tt)
