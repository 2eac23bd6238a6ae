-- The digits that std prints are the number's decimal.
use Rattle.ascii_text.proofs.Decimal.{printed}
use Rattle.oracle_text.specs.Text.{add_number}
use Rattle.oracle_text.proofs.text.put_number.Goals as goal

pub returns : goal.returns
unfolding add_number
returns c =
    let is = printed c.as_bytes-digits.ensures.value c.format.ensures.text c.ranges.n.fits in
    rw (is, c.put-after.ensures.right) at c.put.ensures
