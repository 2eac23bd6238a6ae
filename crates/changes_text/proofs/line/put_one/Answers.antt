-- `changes_text::line::put_one` meets its contract: the word, the code, the status and the line feed, one after the other.
use mathlib.Core.Path.{refl}
use native.Mathlib.Omega.{arith}
use Rattle.form.proofs.Grown.{more, put_as}
use Rattle.changes_text.proofs.line.put_one.Goals as goal

pub returns : goal.returns
returns c =
    put_as (more c.put-a.ensures (more c.put_code-b.ensures (more c.put_status-c.ensures c.put.ensures))) refl (omega arith)
