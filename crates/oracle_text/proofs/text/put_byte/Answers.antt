-- `io::hex` spells a byte in two digits.
use Rattle.oracle_text.specs.Text.{add_byte}
use Rattle.oracle_text.proofs.Added.{two_digits}
use Rattle.oracle_text.proofs.text.put_byte.Goals as goal

pub returns : goal.returns
unfolding add_byte
returns c =
    let hex = rw c.from.ensures at c.hex-k.ensures in
    let two = two_digits c.args.b c.hex-k.result c.ranges.b.fits hex.len in
    rw (hex.digits, two) at c.put.ensures
