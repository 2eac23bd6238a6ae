-- `chart_text::bars::put_months` meets its contract. The invariant: the months that are still to come, after the text so far, make the text that is promised.
use Rattle.std.proofs.Common.{◌≡◌, ◌+◌, ◌*◌, ◌≤◌, drop}
use Rattle.paper.specs.Chart.{months_from}
use Rattle.form.specs.Text.{text, grown}
use Rattle.chart_text.proofs.bars.put_months.Given as goal

abbrev pub invariant-loop-month : goal.invariant-loop-month
invariant-loop-month l = (l.end ≤ l.at + 1860 * l.month) × (grown (months_from l.fn.top.percent l.month (drop l.month l.fn.table)) (text l.end l.out) ≡ grown (months_from l.fn.top.percent 0 l.fn.table) (text l.at l.initial.out))
