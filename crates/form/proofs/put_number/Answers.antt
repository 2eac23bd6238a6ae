-- `form::put_number` meets its contract: the digits that std prints are the paper's.
use Rattle.ascii_text.proofs.Decimal.{printed, short}
use Rattle.form.proofs.Grown.{put_as}
use Rattle.form.proofs.put_number.Goals as goal

pub returns : goal.returns
returns c =
    let is = printed c.as_bytes.ensures.value c.format.ensures.text c.ranges.n.fits in
    put_as c.put.ensures is (rw is (short c.args.n c.ranges.n.fits))
