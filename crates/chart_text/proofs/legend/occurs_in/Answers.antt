-- `chart_text::legend::occurs_in` meets its contract: the first month that has the number decides, or none has.
use mathlib.Core.Path.{refl, sym, ◌∙◌}
use borrow.Author.Rules.{rules}
use Rattle.chart_text.proofs.Drawn.{occurs-here, occurs_not, occurs_nowhere}
use Rattle.chart_text.proofs.legend.occurs_in.Goals as goal

pub loop-row-init : goal.loop-row-init
loop-row-init c = refl

pub returns-then-row-number-ne0 : goal.returns-then-row-number-ne0
returns-then-row-number-ne0 c =
    let l = c.loop-row in
    let a = c.args in
    sym (occurs-here a.table l.row-index (search rules) a.number c.if-row-number-ne0.true) ∙ l.invariant

pub loop-row-preserved : goal.loop-row-preserved
loop-row-preserved c =
    let l = c.loop-row in
    let a = c.args in
    sym (occurs_not a.table l.row-index (search rules) a.number c.if-row-number-ne0.false) ∙ l.invariant

pub returns : goal.returns
returns c = let l = c.loop-row in let a = c.args in sym (occurs_nowhere a.table l.row-index (search rules) a.number) ∙ l.invariant
