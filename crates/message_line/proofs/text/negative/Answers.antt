-- `message_line::text::negative` meets its contract: word by word.
use mathlib.Core.Path.{refl}
use lib.Dec.{lit≤}
use Rattle.form.proofs.Grown.{more, put_as}
use Rattle.message_line.proofs.text.negative.Goals as goal

pub returns : goal.returns
returns c =
    rw (← c.value.ensures) (put_as (more (more (more (more c.put-a.ensures c.put_hex-b.ensures) c.put-c.ensures) c.put_hex-d.ensures) c.put_mark.ensures) refl (lit≤ tt))
