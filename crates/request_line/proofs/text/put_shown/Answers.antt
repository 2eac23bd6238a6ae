-- `request_line::text::put_shown` meets its contract: a dash, or the decimal of the byte.
use mathlib.Core.Path.{refl}
use lib.Dec.{lit≤}
use Rattle.ascii_text.proofs.Laid.{put-laid, put_leaf, put_as}
use Rattle.request_line.proofs.text.put_shown.Goals as goal

pub returns-in-None : goal.returns-in-None
returns-in-None c = rw c.in-None.is (put_as (put_leaf c.put_byte.ensures) refl (lit≤ tt))

pub returns-in-Some : goal.returns-in-Some
returns-in-Some c = rw c.in-Some.is (let n = c.put_decimal.ensures in put-laid (rw c.from.ensures at n.laid) n.upper_bound)
