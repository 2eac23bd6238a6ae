-- `loads_text::put_month` meets its contract: a month without records has no line, and any other the form with its four numbers.
use lib.Dec.{lit≤}
use Rattle.form.proofs.Grown.{none, put_as}
use Rattle.loads_text.proofs.Rows.{month_left_out, month-said}
use Rattle.loads_text.proofs.put_month.Goals as goal

pub returns-then-all-eq0 : goal.returns-then-all-eq0
returns-then-all-eq0 c =
    let a = c.args in
    put_as none (month_left_out a.month a.row c.all_of-all.ensures.value c.if-all-eq0.true) (lit≤ tt)

pub returns : goal.returns
returns c =
    let a = c.args in
    put_as c.put_form.ensures
    (month-said a.month a.row c.all_of-all.ensures.value c.refused_of.ensures.value c.percent_of.ensures c.if-all-eq0.false) (lit≤ tt)
