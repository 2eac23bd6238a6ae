-- `chart_text::scale::fits_year` meets its contract: the first month with more decides, or none has more.
use mathlib.Core.Path.{refl, sym, ◌∙◌}
use native.Mathlib.Nat.{mul-le-mul}
use native.Mathlib.Omega.{arith}
use borrow.Author.Rules.{rules}
use Rattle.chart_text.proofs.Drawn.{fits-here, fits_not, fits_all}
use Rattle.chart_text.proofs.scale.fits_year.Goals as goal

pub loop-row-init : goal.loop-row-init
loop-row-init c = refl

pub overflow_mul-top : goal.overflow_mul-top
overflow_mul-top c = omega (arith, mul-le-mul c.requires c.all_of.ensures.upper_bound)

pub returns-then-top-all_of : goal.returns-then-top-all_of
returns-then-top-all_of c =
    let l = c.loop-row in
    let a = c.args in
    let more = rw (c.all_of.ensures.value, c.refused_of.ensures.value) at c.if-top-all_of.true in
    sym (fits_not a.table l.row-index (search rules) a.top more) ∙ l.invariant

pub loop-row-preserved : goal.loop-row-preserved
loop-row-preserved c =
    let l = c.loop-row in
    let a = c.args in
    let enough = rw (c.all_of.ensures.value, c.refused_of.ensures.value) at c.if-top-all_of.false in
    sym (fits-here a.table l.row-index (search rules) a.top enough) ∙ l.invariant

pub returns : goal.returns
returns c = let l = c.loop-row in let a = c.args in sym (fits_all a.table l.row-index (search rules) a.top) ∙ l.invariant
