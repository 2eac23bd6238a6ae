-- `chart_text::legend::occurs_in` meets its contract. The invariant: the months that are still to come decide.
use Rattle.std.proofs.Common.{◌≡◌, drop}
use Rattle.paper.specs.Chart.{occurs}
use Rattle.chart_text.proofs.legend.occurs_in.Given as goal

abbrev pub invariant-loop-row : goal.invariant-loop-row
invariant-loop-row l = occurs l.fn.number (drop l.row-index l.fn.table) ≡ occurs l.fn.number l.fn.table
