-- `chart_text::legend::put_legend` meets its contract. The invariant: the entries that are still to come, after the text so far, make the text that is promised.
use Rattle.std.proofs.Common.{◌≡◌, ◌+◌, ◌-◌, ◌*◌, ◌≤◌, ◌<◌}
use Rattle.paper.specs.Chart.{legend_from}
use Rattle.form.specs.Text.{text, grown}
use Rattle.chart_text.proofs.legend.put_legend.Given as goal

abbrev pub invariant-loop-number : goal.invariant-loop-number
invariant-loop-number l = record {
  few : l.place < l.number;
  bound : l.end ≤ l.at + 260 * l.place;
  goes_on : grown (legend_from l.fn.table l.place l.number (10 - l.number)) (text l.end l.out) ≡ grown (legend_from l.fn.table 0 1 9) (text l.at l.initial.out);
}
