-- `chart_text::frame::of_year` meets its contract. The invariant: the months that are still to come, added to the sum so far, make the sum that is promised.
use Rattle.std.proofs.Common.{◌≡◌, ◌+◌, ◌*◌, ◌≤◌, drop}
use Rattle.paper.specs.Chart.{of_year}
use Rattle.chart_text.proofs.frame.of_year.Given as goal

abbrev pub invariant-loop-row : goal.invariant-loop-row
invariant-loop-row l = (l.total + of_year l.fn.first (drop l.row-index l.fn.table) ≡ of_year l.fn.first l.fn.table) × (l.total ≤ 42949672950 * l.row-index)
