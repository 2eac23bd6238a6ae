-- `chart_text::frame::put_axes` meets its contract: the bytes are those of the paper.
use mathlib.Core.Path.{refl}
use lib.Dec.{lit≤}
use Rattle.paper.specs.Chart.{axes}
use Rattle.form.proofs.Grown.{put_as}
use Rattle.chart_text.proofs.frame.put_axes.Goals as goal

pub returns : goal.returns
unfolding axes
returns c = put_as c.put.ensures refl (lit≤ tt)
