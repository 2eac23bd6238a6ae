-- `chart_text::chart_text` meets its contract: too long, the picture, or the refusal, each in room enough for it.
use borrow.Author.Rules.{rules}
use Rattle.form.proofs.Grown.{whole}
use Rattle.chart_text.proofs.Lines.{too_long_lem, counted, not_counted}
use Rattle.chart_text.proofs.chart_text.Goals as goal

pub returns-then-input-gt65536 : goal.returns-then-input-gt65536
returns-then-input-gt65536 c =
    let o = whole c.put_too_long.ensures (search rules) in
    rw (← too_long_lem _ c.if-input-gt65536.true) (record { value = o.0; out_after = o.1.0; prefix_len = o.1.1 })

pub returns-in-Ok : goal.returns-in-Ok
returns-in-Ok c =
    let o = whole c.put_chart.ensures (search rules) in
    rw (← counted _ c.if-input-gt65536.false c.in-Ok.ensures)
    (record { value = o.0; out_after = o.1.0; prefix_len = o.1.1 })

pub returns-in-Err : goal.returns-in-Err
returns-in-Err c =
    let o = whole c.put_refusal.ensures (search rules) in
    rw (← not_counted _ c.if-input-gt65536.false c.in-Err.ensures)
    (record { value = o.0; out_after = o.1.0; prefix_len = o.1.1 })
