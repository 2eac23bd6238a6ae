-- `chart_text::frame::put_heading` meets its contract: the form with its two numbers.
use mathlib.Core.Path.{refl}
use lib.Dec.{lit≤}
use Rattle.paper.specs.Chart.{heading}
use Rattle.form.proofs.Grown.{put_as}
use Rattle.chart_text.proofs.frame.put_heading.Goals as goal

pub returns : goal.returns
unfolding heading
returns c = put_as (rw (c.of_year.ensures.0, c.of_year-2.ensures.0) at c.put_form.ensures) refl (lit≤ tt)
