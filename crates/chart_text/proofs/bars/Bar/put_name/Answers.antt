-- `chart_text::bars::Bar::put_name` meets its contract: the form with its number, three letters, and the end of the text.
use mathlib.Core.Path.{refl}
use lib.Dec.{lit≤}
use Rattle.paper.specs.Chart.{name_of}
use Rattle.form.proofs.Grown.{more, put_as}
use Rattle.chart_text.proofs.bars.Bar.put_name.Goals as goal

pub returns : goal.returns
unfolding name_of
returns c = put_as (more (rw c.middle.ensures at c.put_form-a.ensures) (more c.put_letters-b.ensures c.put.ensures)) refl (lit≤ tt)
