-- `changes_text::line::put_status` meets its contract: a space, then the two digits.
use Rattle.form.proofs.Grown.{more}
use Rattle.changes_text.proofs.line.put_status.Goals as goal

pub returns : goal.returns
returns c =
    more c.put-a.ensures c.put_hex.ensures
