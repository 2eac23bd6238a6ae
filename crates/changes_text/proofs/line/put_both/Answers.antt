-- `changes_text::line::put_both` meets its contract: the word, the code, both statuses and the line feed, one after the other.
use mathlib.Core.Path.{refl}
use lib.Dec.{lit≤}
use Rattle.form.proofs.Grown.{more, put_as}
use Rattle.changes_text.proofs.line.put_both.Goals as goal

pub returns : goal.returns
returns c =
    put_as (more c.put-a.ensures (more c.put_code-b.ensures (more c.put_status-c.ensures (more c.put_status-d.ensures c.put.ensures)))) refl (lit≤ tt)
