-- `message_line::text::put_mark` meets its contract: one of the two words.
use mathlib.Core.Path.{refl}
use lib.Dec.{lit≤}
use Rattle.form.proofs.Grown.{put_as}
use Rattle.message_line.proofs.text.put_mark.Goals as goal

pub returns-then-listed : goal.returns-then-listed
returns-then-listed c = rw c.if-listed.true (put_as c.put.ensures refl (lit≤ tt))

pub returns-else-listed : goal.returns-else-listed
returns-else-listed c = rw c.if-listed.false (put_as c.put-else-listed.ensures refl (lit≤ tt))
