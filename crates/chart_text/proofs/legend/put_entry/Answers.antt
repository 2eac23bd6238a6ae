-- `chart_text::legend::put_entry` meets its contract: the form with its six numbers, the words, and the end of the text.
use mathlib.Core.Path.{refl}
use lib.Dec.{lit≤}
use Rattle.paper.specs.Chart.{entry}
use Rattle.form.proofs.Grown.{more, put_as}
use Rattle.chart_text.proofs.legend.put_entry.Goals as goal

pub returns : goal.returns
unfolding entry
returns c = put_as (more c.put_form-a.ensures (more (put_as c.put-b.ensures c.words_of.ensures.value c.words_of.ensures.short) c.put.ensures)) refl (lit≤ tt)
