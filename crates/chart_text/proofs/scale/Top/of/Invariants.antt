-- `chart_text::scale::Top::of` meets its contract. The invariant: the first of the tops that are still to come, if it fits, is the top that is promised.
use Rattle.std.proofs.Common.{◌≡◌, drop}
use Rattle.paper.specs.Chart.{top_of}
use Rattle.chart_text.proofs.Drawn.{first_fit}
use Rattle.chart_text.proofs.scale.Top.of.Given as goal

abbrev pub invariant-loop-percent : goal.invariant-loop-percent
invariant-loop-percent l = first_fit (drop l.percent-index l.percent-items) l.fn.table ≡ top_of l.fn.table
