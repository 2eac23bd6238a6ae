-- `desk_line::desk_text` meets its contract: each case of the line has its own text, in room enough for any line.
use mathlib.Core.Path.{sym, ap, ◌∙◌}
use borrow.Author.Rules.{rules}
use Rattle.desk_check.specs.Desk.{desk_said}
use Rattle.ascii_text.proofs.Laid.{put_leaf, put-over}
use Rattle.desk_line.proofs.Lines.{too_long_lem, judged}
use Rattle.desk_line.proofs.desk_text.Goals as goal

pub returns-then-input-gt131072 : goal.returns-then-input-gt131072
returns-then-input-gt131072 c = rw (← too_long_lem _ c.if-input-gt131072.true) c.put_text.ensures

pub returns-in-Ok : goal.returns-in-Ok
returns-in-Ok c =
    rw (← judged _ c.if-input-gt131072.false (sym (ap desk_said c.in-Ok.is) ∙ c.desk_check.ensures)) (let o = put-over (put_leaf c.put_bytes.ensures) (search rules) in record { value = o.0; out_after = o.1.0; prefix_len = o.1.1 })

pub returns-in-Err : goal.returns-in-Err
returns-in-Err c =
    rw (← judged _ c.if-input-gt131072.false (sym (ap desk_said c.in-Err.is) ∙ c.desk_check.ensures)) c.put_text-in-Err.ensures
