-- `chart_text::scale::Top::of` meets its contract: the first that fits, or 100.
use mathlib.Core.Path.{sym, ◌∙◌}
use Rattle.chart_text.proofs.Drawn.{fit-here, fit_not, fit_none, seven_tops}
use Rattle.chart_text.proofs.scale.Top.of.Goals as goal

pub loop-percent-init : goal.loop-percent-init
loop-percent-init c = seven_tops c.args.table

pub returns-then-fits_year : goal.returns-then-fits_year
returns-then-fits_year c = let l = c.loop-percent in sym (fit-here _ c.args.table l.percent-index c.loop-percent-test.true (sym c.fits_year.ensures ∙ c.if-fits_year.true)) ∙ l.invariant

pub loop-percent-preserved : goal.loop-percent-preserved
loop-percent-preserved c = let l = c.loop-percent in sym (fit_not _ c.args.table l.percent-index c.loop-percent-test.true (sym c.fits_year.ensures ∙ c.if-fits_year.false)) ∙ l.invariant

pub returns : goal.returns
returns c = let l = c.loop-percent in sym (fit_none _ c.args.table l.percent-index c.loop-percent-test.false) ∙ l.invariant
