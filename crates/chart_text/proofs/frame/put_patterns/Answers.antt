-- `chart_text::frame::put_patterns` meets its contract: four pieces, one after the other.
use mathlib.Core.Path.{refl}
use lib.Dec.{lit≤}
use Rattle.paper.specs.Chart.{patterns, plain, slanted, straight, dotted}
use Rattle.form.proofs.Grown.{more, put_as}
use Rattle.chart_text.proofs.frame.put_patterns.Goals as goal

pub returns : goal.returns
unfolding patterns plain slanted straight dotted
returns c = put_as (more c.put-a.ensures (more c.put-b.ensures (more c.put-c.ensures c.put.ensures))) refl (lit≤ tt)
