-- `ascii_text::put_decimal` meets its contract: the digits that std prints are the paper's.
use Rattle.ascii_text.proofs.Decimal.{printed}
use Rattle.ascii_text.proofs.Laid.{laid_leaf}
use Rattle.ascii_text.proofs.put_decimal.Goals as goal

pub returns-clause-laid : goal.returns-clause-laid
returns-clause-laid c =
    laid_leaf (printed c.as_bytes-digits.ensures.value c.format.ensures.text c.ranges.n.fits) c.put_bytes.ensures
