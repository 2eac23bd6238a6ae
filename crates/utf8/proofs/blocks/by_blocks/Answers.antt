-- `by_blocks` meets its contract: bytes that fit are valid, but for those of a character that goes on after them.
use Rattle.utf8.proofs.Valid.{empty}
use Rattle.utf8.proofs.Ascii.{ascii-valid}
use Rattle.utf8.proofs.Fit.{fitting_valid}
use Rattle.utf8.proofs.blocks.by_blocks.Goals as goal

pub returns-then-s-ascii-lt-BLOCK : goal.returns-then-s-ascii-lt-BLOCK
returns-then-s-ascii-lt-BLOCK c = ascii-valid c.ascii_blocks-ascii.ensures

pub returns-in_default : goal.returns-in_default
returns-in_default c = empty _

pub returns : goal.returns
returns c = fitting_valid c.fitting_blocks-end.ensures c.unfinished.ensures.value
