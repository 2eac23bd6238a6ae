-- `chart_text::frame::put_closing` meets its contract: the bytes are those of the paper.
use mathlib.Core.Path.{refl}
use lib.Dec.{lit≤}
use Rattle.paper.specs.Chart.{closing}
use Rattle.form.proofs.Grown.{put_as}
use Rattle.chart_text.proofs.frame.put_closing.Goals as goal

pub returns : goal.returns
unfolding closing
returns c = put_as c.put.ensures refl (lit≤ tt)
