-- `chart_text::frame::put_opening` meets its contract: the bytes are those of the paper.
use mathlib.Core.Path.{refl}
use lib.Dec.{lit≤}
use Rattle.paper.specs.Chart.{opening}
use Rattle.form.proofs.Grown.{put_as}
use Rattle.chart_text.proofs.frame.put_opening.Goals as goal

pub returns : goal.returns
unfolding opening
returns c = put_as c.put.ensures refl (lit≤ tt)
