-- `message_line::text::routine_request` meets its contract: the form with its numbers.
use mathlib.Core.Path.{refl}
use lib.Dec.{lit≤}
use Rattle.form.proofs.Grown.{put_as}
use Rattle.message_line.proofs.Lines.{bit}
use Rattle.message_line.proofs.text.routine_request.Goals as goal

pub returns : goal.returns
returns c =
    put_as (rw (c.from.ensures, c.value.ensures, c.from-2.ensures, bit c.args.q.suppress_positive_response, c.from-3.ensures) at c.put_form.ensures) refl (lit≤ tt)
