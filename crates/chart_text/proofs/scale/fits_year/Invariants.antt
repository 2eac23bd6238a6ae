-- `chart_text::scale::fits_year` meets its contract. The invariant: the months that are still to come decide.
use Rattle.std.proofs.Common.{◌≡◌, drop}
use Rattle.paper.specs.Chart.{fits}
use Rattle.chart_text.proofs.scale.fits_year.Given as goal

abbrev pub invariant-loop-row : goal.invariant-loop-row
invariant-loop-row l = fits l.fn.top (drop l.row-index l.fn.table) ≡ fits l.fn.top l.fn.table
