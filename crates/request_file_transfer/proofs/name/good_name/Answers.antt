-- `request_file_transfer::name::good_name` meets its contract: the checks in the paper's order.
use borrow.Author.Tests.{lt-leb, le-leb}
use Rattle.paper.specs.Request.{good_name}
use Rattle.paper.proofs.Utf8.{longest-is}
use Rattle.request_file_transfer.proofs.name.good_name.Goals as goal

pub returns-then-name-gt65535 : goal.returns-then-name-gt65535
unfolding good_name
returns-then-name-gt65535 c = rw (lt-leb _ _ c.if-name-gt65535.true)

pub returns-then-is_utf8 : goal.returns-then-is_utf8
unfolding good_name
returns-then-is_utf8 c = rw (le-leb _ _ c.if-name-gt65535.false, ← c.is_utf8.ensures, c.if-is_utf8.true)

pub returns : goal.returns
unfolding good_name
returns c = rw (le-leb _ _ c.if-name-gt65535.false, ← c.is_utf8.ensures, c.if-is_utf8.false, ← longest-is _ _ c.valid_up_to-good.ensures)
