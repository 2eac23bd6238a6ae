-- `chart_text::scale::Top::put_line` meets its contract: the form with its three numbers.
use mathlib.Core.Path.{refl}
use lib.Dec.{lit≤}
use Rattle.paper.specs.Chart.{scale_line}
use Rattle.form.proofs.Grown.{put_as}
use Rattle.chart_text.proofs.scale.Top.put_line.Goals as goal

pub returns : goal.returns
unfolding scale_line
returns c = put_as (rw (c.saturating_sub.ensures, c.saturating_sub-2.ensures, c.parts-parts.ensures.value) at c.put_form.ensures) refl (lit≤ tt)
