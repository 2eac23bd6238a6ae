-- `message_line::text::put_transfer` meets its contract: the form with its numbers, with a format byte or without.
use mathlib.Core.Path.{refl}
use native.Mathlib.Omega.{arith}
use Rattle.form.proofs.Grown.{put_as}
use Rattle.message_line.proofs.text.put_transfer.Goals as goal

pub returns-in-Some : goal.returns-in-Some
returns-in-Some c = rw c.in-Some.is (put_as (rw (c.from-kind.ensures, c.from.ensures) at c.put_form.ensures) refl (omega arith))

pub returns-in-None : goal.returns-in-None
returns-in-None c = rw c.in-None.is (put_as (rw c.from-kind.ensures at c.put_form-in-None.ensures) refl (omega arith))
